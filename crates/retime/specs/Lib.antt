-- What the code finds, and what the calls give back, in terms of the definitions of `retimed`.
pub mod Shape
