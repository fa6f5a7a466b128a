-- The definitions of this crate; those of a participant between two parts and in one are handed on.
pub use Rattle.tide.specs.Parts
pub mod Shares
