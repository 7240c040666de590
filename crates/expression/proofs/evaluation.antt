-- What the proofs of several functions of `evaluation`, and of those above it, cite.
pub mod Laws
