pub mod Questions
pub mod Weights
pub mod Given
