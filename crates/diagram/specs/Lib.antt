pub mod Diagram
pub mod Listing
pub mod Lower
