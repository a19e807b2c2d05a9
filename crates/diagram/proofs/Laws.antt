pub mod Combine
pub mod Means
pub mod Canon
pub mod Weight
pub mod Number
pub mod Listing
pub mod Function
