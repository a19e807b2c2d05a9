pub mod Fit
pub mod Inner
pub mod Laws
