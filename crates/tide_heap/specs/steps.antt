pub mod Works
pub mod Steps
pub mod Follows
pub mod Calls
pub mod Numbers
pub mod Plays
