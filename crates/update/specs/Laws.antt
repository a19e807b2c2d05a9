-- What an update does: Says, that what is built says what document 01 says; Built, that it is well made; Held, what the store holds then;
-- Full, when there is no room; Again, that what was built once is not built anew; State, that the layer's state is kept.
pub mod Says
pub mod Built
pub mod Held
pub mod Full
pub mod Again
pub mod State
