-- What it is to print an expression where it stands in a sheet.
pub mod Prints
