-- What the contracts of this crate cite.
pub mod Entries
pub mod Plants
pub mod Told
