pub mod Report
pub mod Asked
pub mod Laws
