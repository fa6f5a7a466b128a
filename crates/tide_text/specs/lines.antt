-- The definitions of this crate.
pub mod FaultLine
pub mod Line
pub mod OpText
