pub mod owed
pub mod cells
pub mod calls
