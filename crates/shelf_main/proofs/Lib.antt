-- Laws of the texts that the program takes and gives.
pub mod Laws
