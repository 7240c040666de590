-- What the proof of `judge` cites.
pub mod Laws
