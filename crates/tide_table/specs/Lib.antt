-- The definitions of this crate, and those of what is told of cycles, which this one hands on.
pub use Rattle.tide_statistics.specs as tide_statistics
pub mod Blacks
pub mod Census
pub mod Foreseen
pub mod Openings
pub mod Pauses
pub mod Plays
pub mod Shown
pub mod Standing
pub mod Started
pub mod VisitsEntered
pub mod VisitsTold
