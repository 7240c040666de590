-- What the code that reads a text is measured against.
pub mod Reading
pub mod Writing
pub mod Waiting
