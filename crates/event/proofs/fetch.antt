-- What the proofs of the functions of `fetch`, and of those that call them, cite.
pub mod Laws
pub mod Asks
