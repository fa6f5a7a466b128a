pub mod Bits
pub mod Examples
pub mod Places
