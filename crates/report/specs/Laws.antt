-- Texts says how the texts are written part by part; Lines, Answer and Said say that the code's text is the definition's. Ends and Short
-- are about the definition: where a run ends and what it tells, and how long a text is.
pub mod Texts
pub mod Lines
pub mod Answer
pub mod Said
pub mod Ends
pub mod Short
pub mod Worked
