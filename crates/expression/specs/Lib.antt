-- The code's types as those of the rules, and what the contracts say.
pub mod Kind
pub mod Reading
pub mod Evaluation
pub mod Parts
pub mod Comparison
pub mod Narrowing
pub mod Whole
pub mod Walk
