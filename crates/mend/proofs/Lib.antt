-- What the walk leaves in both buffers, and what the call makes of it.
pub mod Outcome
