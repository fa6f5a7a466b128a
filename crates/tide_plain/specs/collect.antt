pub mod Blocks
pub mod Collecting
pub mod Marking
