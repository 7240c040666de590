-- Laws of fields: several of a kind read in a loop, and which action halts; and what the code's proofs unfold.
pub mod Opened
pub mod Loops
pub mod Halts
