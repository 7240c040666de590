-- The code's values as those of the rules, and what the contracts say.
pub mod Taken
pub mod Survey
pub mod Turn
pub mod Run
pub mod Whole
