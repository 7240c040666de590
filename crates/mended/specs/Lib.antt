-- Mending a garbled sheet (02, ticket 13): the definition, worked rows and the claims.
pub mod Mend
pub mod Worked
pub mod Claims
