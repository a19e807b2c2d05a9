pub mod Refused
pub mod Enough
pub mod Weights
pub mod Shares
pub mod Steps
pub mod Runs
pub mod Bound
