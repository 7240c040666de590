-- Laws of numbers in digits.
pub mod Laws
