-- The definitions of this crate.
pub mod Playing
pub mod Shown
