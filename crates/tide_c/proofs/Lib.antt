-- What the proofs of this crate rest on.
pub mod Answered
pub mod Began
pub mod Behind
pub mod Blocks
pub mod Counting
pub mod Exported
pub mod Handles
pub mod Lists
pub mod Same
pub mod Seats
