pub mod Changes
pub mod Pairs
pub mod PartLists
pub mod Swept
pub mod Taken
