-- Laws of readings, and of reading a text from a place: words and numbers, bytes that are written, and results by their cases.
pub mod Opened
pub mod Readings
pub mod WordLaws
pub mod WriteLaws
pub mod BuildLaws
