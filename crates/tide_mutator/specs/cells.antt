pub mod Births
pub mod Claiming
pub mod PortShown
pub mod Searching
pub mod Sweeping
