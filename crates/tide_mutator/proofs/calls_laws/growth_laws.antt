-- The laws of the growth of an array.
pub mod Calls
pub mod Grown
pub mod Actions
pub mod Reading
pub mod Taking
pub mod Wanting
