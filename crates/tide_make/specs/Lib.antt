-- The definitions of this crate.
pub mod Made
pub mod Rounds
pub mod Rows
