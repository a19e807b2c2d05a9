-- Tables reads tables of refusals row by row; Counts has the counts of a call's program; Parts puts the parts of the lent memory together
-- with what lies beyond them. Stepping says what loading, update, close and run answer over the parts and over the whole, Questioning the
-- same of weights and listings, Sharing of weights given evidence.
pub mod Tables
pub mod Counts
pub mod Parts
pub mod Stepping
pub mod Questioning
pub mod Sharing
