pub mod Text
pub mod Wrote
pub mod Writes
pub mod Laws
