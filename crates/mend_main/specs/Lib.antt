-- What the program's functions are measured against.
pub mod Text
