-- What callers of `whole` cite.
pub mod Laws
