-- Freezes, their entries, and openings.
pub mod Freezing
pub mod Entering
pub mod OpeningParts
pub mod Progress
pub mod RestingSweeps
pub mod FrozenBlacks
