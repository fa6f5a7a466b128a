-- The definitions of this crate.
pub mod Answered
pub mod Asking
pub mod Laws
pub mod Left
pub mod Own
pub mod Part
pub mod Periods
pub mod Recorded
pub mod Room
pub mod Run
pub mod Store
