-- The words of a heap, and the state that they read as.
pub mod EmptyHeap
pub mod Fields
pub mod Filled
pub mod Heap
pub mod Live
pub mod Reading
pub mod Written
