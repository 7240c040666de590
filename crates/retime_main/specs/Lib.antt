-- What the program's functions are measured against: its words, and what it prints.
pub mod Words
pub mod Line
