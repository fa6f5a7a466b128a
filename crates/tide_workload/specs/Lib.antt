pub mod Words
pub mod Examples
pub mod Fields
pub mod Reading
pub mod Scripts
pub mod Shapes
pub mod Steps
