pub mod Acting
pub mod Calling
pub mod Made
pub mod Paying
pub mod Replacing
pub mod Shading
pub mod Standing
