pub mod Hand
pub mod Inner
pub mod Answers
pub mod Laws
