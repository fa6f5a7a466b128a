-- The definitions of this crate.
pub mod Freezes
pub mod Parts
