pub mod Store
pub mod Full
pub mod Calls
pub mod Kept
pub mod Laws
