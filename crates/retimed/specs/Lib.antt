-- New times and their taking back: the definitions, worked rows and claims of each.
pub mod Retime
pub mod Worked
pub mod Claims
pub mod TakeBack
pub mod TakeBackWorked
pub mod TakeBackClaims
