-- Chain reads a chain back from the bytes that were written. Lines and Said say that the code's text is the definition's; Exact and Short
-- are about the definition: what it fixes, and how long a text is.
pub mod Chain
pub mod Lines
pub mod Said
pub mod Exact
pub mod Short
pub mod Worked
