-- What the code writes, and what the calls give back, in terms of the definitions of `mended`.
pub mod Shape
