-- The lemmas of this crate, and those of what is told of cycles, which this one hands on.
pub use Rattle.tide_statistics.proofs as tide_statistics
pub mod Tallies
pub mod ClassCounts
pub mod Pauses
pub mod FrozenWords
pub mod Heeding
pub mod Spans
pub mod Collectors
pub mod Seating
pub mod Tabled
pub mod Starting
pub mod Nexts
pub mod Openings
pub mod Standing
pub mod Telling
pub mod Visits
pub mod VisitsTold
pub mod ForeseenLaws
