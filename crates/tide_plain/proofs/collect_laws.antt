pub mod DeadBlocks
pub mod Freed
pub mod Growing
pub mod Holding
pub mod Kept
pub mod PairLaws
pub mod Searching
