-- What the proofs of several functions of `starting` cite.
pub mod Laws
