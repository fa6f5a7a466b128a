pub mod Contents
pub mod Counting
pub mod CountingExamples
pub mod Parts
pub mod Properties
pub mod Stored
pub mod Sweeping
