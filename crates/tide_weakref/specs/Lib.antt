-- The definitions of this crate.
pub mod Calls
pub mod Delivered
pub mod Dereferenced
pub mod Handles
pub mod Jobs
pub mod Referenced
pub mod Registered
pub mod Roles
pub mod Setting
pub mod Stepping
pub mod Uses
pub mod Viewed
pub mod Worked
