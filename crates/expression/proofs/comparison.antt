-- What the proofs of several functions of `comparison` cite.
pub mod Laws
