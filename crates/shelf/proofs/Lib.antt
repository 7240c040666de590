-- The rule's laws, its rows computed, the claims proved, and what the code's proofs cite.
pub mod Opened
pub mod Look
pub mod Both
pub mod Written
pub mod Says
pub mod Only
pub mod Claims
pub mod Worked
