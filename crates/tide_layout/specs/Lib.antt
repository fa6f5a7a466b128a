pub mod Firsts
pub mod Layout
pub mod Limits
pub mod Region
pub mod Slots
