pub mod Contents
pub mod Holding
pub mod Index
pub mod Path
pub mod Retention
pub mod RootsRead
pub mod Searching
pub mod Trail
