-- A state's parts, its numbers in a slot of the buffer, and the rules' state that it stands for.
pub mod Access
pub mod Cells
pub mod Shape
pub mod Move
pub mod Start
