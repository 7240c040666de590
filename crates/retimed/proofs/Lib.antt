-- One statement exchanged; the four bytes; the changed sheet; the change and its preview case by case; the change that is made, and taken
-- back; the worked rows and the claims.
pub mod Edit
pub mod TimeBytes
pub mod Retime
pub mod Change
pub mod Preview
pub mod Made
pub mod Worked
pub mod Claims
pub mod TakeBack
pub mod TakeBackWorked
pub mod TakeBackClaims
