-- The definitions of this crate.
pub mod Few
pub mod Rows
pub mod Statistics
pub mod Sums
pub mod Told
