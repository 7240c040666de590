-- What the proof of `places` cites.
pub mod Laws
