-- The definitions of this crate.
pub mod Engine
pub mod References
