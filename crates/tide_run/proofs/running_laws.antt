-- The lemmas of this crate.
pub mod Copies
pub mod Outsiders
pub mod RunLaws
