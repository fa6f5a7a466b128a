pub mod Calls
pub mod Registers
pub mod Store
