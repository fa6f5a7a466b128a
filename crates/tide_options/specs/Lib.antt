-- The definitions of this crate.
pub mod Command
pub mod Options
pub mod Rows
