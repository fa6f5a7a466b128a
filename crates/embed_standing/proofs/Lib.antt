-- The proofs that several functions share.
pub mod Answered
pub mod Calling
pub mod Rests
pub mod Seats
pub mod Shown
