-- Sheets typed at the bench (02, ticket 2): words, expressions and lines of a text, the sheet that it makes, worked rows and the claims.
pub mod Words
pub mod Notation
pub mod Lines
pub mod Convert
pub mod Says
pub mod Worked
pub mod Claims
