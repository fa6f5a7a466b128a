-- The rooms below that this one hands on.
pub use Rattle.tide_layout.specs as tide_layout
pub use Rattle.tide_block.specs as tide_block
pub mod forms
pub mod heap
pub mod marking
