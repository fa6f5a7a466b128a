-- The rooms below that this one hands on.
pub use Rattle.tide_io.specs as tide_io
pub use Rattle.tide_text.specs as tide_text
pub use Rattle.tide_retained.specs as tide_retained
pub mod Line
pub mod Written
