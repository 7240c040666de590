-- What the proofs of several functions of `place` cite.
pub mod Laws
