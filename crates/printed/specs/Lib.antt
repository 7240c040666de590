-- One printed form for each sheet (02, ticket 4): the printed form of a sheet, what its bytes are like, worked rows and the claims.
pub mod Print
pub mod Form
pub mod Worked
pub mod Claims
