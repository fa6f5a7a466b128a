-- Lemmas of this crate.
pub mod Acting
pub mod Ending
pub mod Freezes
pub mod Fresh
pub mod Logs
pub mod Loops
pub mod Making
pub mod Parking
pub mod Seating
pub mod Shares
pub mod Standing
pub mod Taking
pub mod Turns
pub mod Visiting
pub mod Visits
mod Grown
