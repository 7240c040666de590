-- What the proofs of several functions of `narrowing` cite: of walks (Laws), and of the join of registers (Joins).
pub mod Laws
pub mod Joins
