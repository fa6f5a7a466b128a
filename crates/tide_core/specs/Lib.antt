-- The rooms below that this one hands on.
pub use Rattle.tide_words.specs as tide_words
pub use Rattle.tide_call.specs as tide_call
pub use Rattle.tide_solver.specs as tide_solver
pub use Rattle.tide_sweep.specs as tide_sweep
pub use Rattle.tide_cycle.specs as tide_cycle
pub use Rattle.tide_words.specs.tide_layout
pub use Rattle.tide_words.specs.tide_block
pub mod wave
pub mod machine
