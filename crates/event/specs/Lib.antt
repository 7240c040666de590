-- The code's values as those of the rules, and what the contracts of an event say.
pub mod Plan
pub mod Fetch
pub mod Push
pub mod Act
pub mod Stack
