-- What the program gives of a text.
pub mod Told
