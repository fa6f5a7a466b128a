-- The rooms below that this one hands on.
pub use Rattle.tide_hands.proofs as tide_hands
pub use Rattle.tide_heap.proofs as tide_heap
pub mod ForcedCycles
pub mod FullCycles
pub mod Keeping
pub mod Openings
pub mod Schedule
pub mod Sharing
