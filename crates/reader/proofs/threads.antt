-- What the proofs of several functions of `threads` cite.
pub mod Laws
pub mod Tables
