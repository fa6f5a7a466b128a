-- The rooms below that this one hands on.
pub use Rattle.tide_core.specs as tide_core
pub use Rattle.tide_freeze.specs as tide_freeze
pub use Rattle.tide_core.specs.tide_words
pub use Rattle.tide_core.specs.tide_call
pub use Rattle.tide_core.specs.tide_solver
pub use Rattle.tide_core.specs.tide_sweep
pub use Rattle.tide_core.specs.tide_cycle
pub use Rattle.tide_core.specs.tide_layout
pub use Rattle.tide_core.specs.tide_block
pub mod Parties
pub mod Births
pub mod Done
pub mod Rule
pub mod Turns
pub mod steps
