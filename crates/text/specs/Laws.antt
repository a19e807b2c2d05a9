-- Wrote says what stands in the output when text is written in parts; Decimal, Parts and Lines say how numbers, the texts of Text and
-- lines one behind the other are written, and how long they can be.
pub mod Wrote
pub mod Writes
pub mod Decimal
pub mod Parts
pub mod Lines
