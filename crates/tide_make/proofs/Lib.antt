-- The laws of this crate.
pub mod Laws
