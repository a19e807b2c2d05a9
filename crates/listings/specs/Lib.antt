pub mod Copy
pub mod Write
pub mod Laws
