-- Laws of what the code finds, writes and gives.
pub mod Finding
pub mod Writing
pub mod Changing
pub mod TakingBack
pub mod Previewing
