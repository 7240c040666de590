-- Laws of the search, from the events of a turn up to the loop.
pub mod TurnLaws
pub mod EventLaws
pub mod ExpandLaws
pub mod WholeTurn
pub mod RunLaws
pub mod WholeLaws
