pub mod Refusals
pub mod Numbers
pub mod Calls
pub mod Outcomes
pub mod Causes
pub mod Results
pub mod Laws
