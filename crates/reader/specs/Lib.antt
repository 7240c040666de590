-- What the reader's code is measured against: the parts of a sheet, its index, and what holds of a sheet that reads.
pub mod Index
pub mod Walk
pub mod Facts
