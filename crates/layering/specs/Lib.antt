pub mod Rising
pub mod Calls
pub mod Inner
pub mod Told
pub mod Written
pub mod Laws
