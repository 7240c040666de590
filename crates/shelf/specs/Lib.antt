-- 02, ticket 14: the rule, rows worked out by hand, what is claimed of the whole, and the code's data as the rule's.
pub mod Pairs
pub mod Lookup
pub mod Worked
pub mod Claims
pub mod Shape
