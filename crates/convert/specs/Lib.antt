-- What the code makes of a text, and what the call gives, in terms of the definition of `text`.
pub mod Head
pub mod Whole
pub mod Shape
