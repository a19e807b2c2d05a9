pub mod Script
pub mod Calls
pub mod Laws
