-- What the proofs of several functions of `closing` cite.
pub mod Laws
pub mod Codes
