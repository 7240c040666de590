-- The code's data in terms of the rule, whose definitions stand in `recorded`.
pub mod Known
pub mod Replay
pub mod Sheet
pub mod Act
pub mod Step
pub mod Reached
pub mod Start
pub mod Shape
