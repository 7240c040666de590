-- What the code reads and writes of a line, in terms of the definition of `text`.
pub mod Reading
pub mod Registers
pub mod Writing
