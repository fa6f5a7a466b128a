-- The definitions of this crate.
pub mod Outcome
pub mod Runs
