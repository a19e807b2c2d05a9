pub mod Reached
pub mod Demands
pub mod StandIns
pub mod Laws
pub mod Theorem
