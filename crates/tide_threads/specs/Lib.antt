-- The definitions of this crate, and those of the log of cycles, which this one hands on.
pub use Rattle.tide_table.specs.tide_statistics
pub mod Acting
pub mod Fresh
pub mod Marking
pub mod OnThreads
pub mod Parked
pub mod Playing
pub mod Standing
pub mod Works
