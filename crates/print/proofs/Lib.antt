-- The printer's laws: rows of lines, statements, threads by their index, and the whole text in its buffer.
pub mod RowLaws
pub mod StatementLaws
pub mod IndexLaws
pub mod WholeLaws
