-- What the proofs of several functions cite of kinds.
pub mod Laws
