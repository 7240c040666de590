-- What the proofs of several functions of `reading` cite.
pub mod Laws
