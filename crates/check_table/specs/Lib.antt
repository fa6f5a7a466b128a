pub mod Working
pub mod Resting
pub mod Pairs
pub mod Standing
pub mod Unvisited
pub mod callers
