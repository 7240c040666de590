-- What the proofs of other crates cite of the code's answers.
pub mod Laws
