pub mod Layering
pub mod Written
pub mod Calls
pub mod Searching
pub mod Laws
