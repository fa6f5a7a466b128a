-- The rooms below that this one hands on.
pub use Rattle.tide_core.proofs as tide_core
pub use Rattle.tide_freeze.proofs as tide_freeze
pub use Rattle.tide_core.proofs.tide_words
pub use Rattle.tide_core.proofs.tide_call
pub use Rattle.tide_core.proofs.tide_solver
pub use Rattle.tide_core.proofs.tide_sweep
pub use Rattle.tide_core.proofs.tide_cycle
pub use Rattle.tide_core.proofs.tide_layout
pub use Rattle.tide_core.proofs.tide_block
pub mod Beginnings
pub mod Births
pub mod Leaving
pub mod Members
pub mod Newcomers
pub mod Runs
pub mod Turning
pub mod steps_laws
