-- The proofs that several functions share.
pub mod Engines
