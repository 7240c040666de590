-- Laws that the proofs of this crate, and of those above it, cite.
pub mod Writing
pub mod Timed
pub mod Round
pub mod Shape
pub mod Stack
pub mod Slot
pub mod Written
pub mod Ownership
pub mod Initial
