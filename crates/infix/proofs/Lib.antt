-- Laws of printing expressions: readings of two parts, leaves, and operators with what stands round them.
pub mod PartLaws
pub mod LeafLaws
pub mod TextLaws
