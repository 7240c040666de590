-- The code's answer as the rules' five numbers.
pub mod Shape
