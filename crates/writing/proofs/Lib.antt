-- The writer's laws: texts one behind the other, numbers in decimal, and the line of five numbers.
pub mod Written
pub mod Decimal
pub mod Line
pub mod Five
