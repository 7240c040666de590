-- What the proofs of several functions of `known`, and of those above it, cite.
pub mod Laws
