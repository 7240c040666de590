-- What the printer's code is measured against: texts of the parts that it has, and what the call gives.
pub mod Texts
pub mod Shape
