-- Laws of what the program gives.
pub mod Laws
