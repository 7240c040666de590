-- What the proofs of several modules cite.
pub mod Opened
