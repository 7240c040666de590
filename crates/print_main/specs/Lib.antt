-- What the program gives of a sheet.
pub mod Told
