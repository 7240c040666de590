-- What the code that reads expressions is measured against.
pub mod Forms
pub mod Signs
pub mod Nots
