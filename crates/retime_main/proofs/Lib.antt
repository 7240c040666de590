-- Laws of the program's words, of numbers that are cut, and of what is printed.
pub mod Words
pub mod Cut
pub mod Laws
