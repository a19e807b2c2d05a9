pub mod Course
pub mod Stamps
pub mod Running
pub mod Laws
