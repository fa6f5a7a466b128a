-- The proofs that several functions share.
pub mod Freezes
pub mod Taking
