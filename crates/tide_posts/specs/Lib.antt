-- The rooms below that this one hands on.
pub use Rattle.tide_hands.specs as tide_hands
pub use Rattle.tide_hands.specs.Among
pub use Rattle.tide_heap.specs as tide_heap
pub mod FullCycles
pub mod Name
pub mod Openings
pub mod Posts
pub mod Schedule
pub mod Shares
