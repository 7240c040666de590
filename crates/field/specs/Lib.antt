-- What the code that reads fields is measured against: views of the rules' own readings.
pub mod Ticks
pub mod Outcome
pub mod Heads
pub mod Header
pub mod Codes
pub mod Decoded
