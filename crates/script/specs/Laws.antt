-- What scripts satisfy. Step is about one instruction, and what it builds; Run is about one after another.
pub mod Step
pub mod Run
