-- The rule's laws, its rows computed, and the claims proved.
pub mod Loop
pub mod Gaps
pub mod FieldBytes
pub mod Says
pub mod Written
pub mod Runs
pub mod Refusals
pub mod Answers
pub mod Worked
pub mod Claims
