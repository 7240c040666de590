-- What the proofs of several functions of `whole` cite.
pub mod Start
