-- What the proofs of several functions of `events`, and of those above it, cite.
pub mod Laws
