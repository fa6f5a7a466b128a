-- The rooms below that this one hands on.
pub use Rattle.tide_model.proofs as tide_model
pub use Rattle.tide_table.proofs as tide_table
pub use Rattle.tide_posts.proofs.tide_heap
pub use Rattle.tide_posts.proofs.FullCycles
pub use Rattle.tide_posts.proofs.Openings
pub mod Lists
pub mod Summed
pub mod Notes
pub mod Tickets
pub mod Working
pub mod Lying
pub mod Noted
pub mod Waiting
pub mod Handing
pub mod Ending
pub mod Freezes
pub mod First
pub mod GoneOn
