-- The rooms below that this one hands on.
pub use Rattle.tide_layout.proofs as tide_layout
pub use Rattle.tide_block.proofs as tide_block
pub mod form_laws
pub mod heap_laws
pub mod marking_laws
