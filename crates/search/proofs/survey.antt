-- What the proofs of the functions of `survey` cite.
pub mod Laws
