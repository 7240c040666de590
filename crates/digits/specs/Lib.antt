-- What it is for a word to write a number.
pub mod Digits
