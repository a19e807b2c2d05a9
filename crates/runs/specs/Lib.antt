pub mod Ready
pub mod Laws
