-- The definitions of this crate.
pub mod Asked
pub mod Printing
pub mod Program
pub mod Runs
pub mod running
