-- The laws on these definitions, each under the name of its room; and those on a participant.
pub mod Acting
pub mod ByFields
pub mod Counting
pub mod Limits
pub mod OneShare
pub mod Operands
pub mod Parts
pub mod Passed
pub mod Pushing
pub mod Reading
pub mod Refusals
pub mod Replies
pub mod Retrying
pub mod Seats
pub mod Watching
pub use Rattle.tide_server.proofs.tide_model
pub use Rattle.tide_server.proofs.tide_heap.tide_core
pub use Rattle.tide_server.proofs.tide_table
pub use Rattle.tide_weakref.proofs as tide_weakref
pub use Rattle.tide_server.proofs as tide_server
