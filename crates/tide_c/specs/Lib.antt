-- The definitions of this crate.
pub mod Calls
pub mod Figures
pub mod Handles
pub mod Looks
pub mod Opened
pub mod Operations
pub mod Owning
pub mod Parties
pub mod Statuses
pub mod Turns
