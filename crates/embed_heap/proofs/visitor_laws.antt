-- The proofs that several functions share; those of a participant in a part are handed on.
pub use Rattle.tide.proofs.Parts
pub mod Taking
