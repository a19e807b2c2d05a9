-- What the meaning satisfies. Tests and Settle are tools; Least says that a model is what 01 says it is, Layers where an atom is settled,
-- Same which changes of the rules change no model, and Weights how the weights of choices add up.
pub mod Tests
pub mod Settle
pub mod Least
pub mod Layers
pub mod Same
pub mod Weights
