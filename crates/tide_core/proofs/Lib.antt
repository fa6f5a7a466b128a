-- The rooms below that this one hands on.
pub use Rattle.tide_words.proofs as tide_words
pub use Rattle.tide_call.proofs as tide_call
pub use Rattle.tide_solver.proofs as tide_solver
pub use Rattle.tide_sweep.proofs as tide_sweep
pub use Rattle.tide_cycle.proofs as tide_cycle
pub use Rattle.tide_words.proofs.tide_layout
pub use Rattle.tide_words.proofs.tide_block
pub mod wave_laws
pub mod machine_laws
