-- The header lines; fields in a row; registers ahead; line by line; what the reader says; the answer.
pub mod HeadReading
pub mod HeadLaws
pub mod Rows
pub mod Laying
pub mod Openings
pub mod Ahead
pub mod LineByLine
pub mod TextLaws
pub mod Verdicts
pub mod Answers
