-- Laws of the texts that the program gives.
pub mod Laws
