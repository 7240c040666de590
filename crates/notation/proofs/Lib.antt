-- Laws of reading and writing expressions: constants and registers, signs, chains of operands, levels, parentheses, comparisons,
-- conditions and the `!`s before them.
pub mod Opened
pub mod LeafLaws
pub mod SignLaws
pub mod ChainLaws
pub mod ArithLaws
pub mod CloseLaws
pub mod CompareLaws
pub mod ConditionLaws
pub mod NotLaws
