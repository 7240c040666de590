-- What the proofs of several functions of `writer` cite.
pub mod Laws
