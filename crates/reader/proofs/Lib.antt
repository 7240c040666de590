-- The reader's laws: tables, the whole sheet, and what later layers may rely on of a sheet that reads (`Facts`, and `Room`: every
-- range stands inside the sheet).
pub mod Opened
pub mod Filled
pub mod StatementFacts
pub mod ThreadFacts
pub mod TableFacts
pub mod Facts
pub mod Room
pub mod Sheet
