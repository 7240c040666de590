-- The code's refusals as those of the rules.
pub mod Shape
