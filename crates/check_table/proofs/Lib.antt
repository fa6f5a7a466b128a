pub mod Looks
pub mod Pairing
pub mod callers_laws
