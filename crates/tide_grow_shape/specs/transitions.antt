pub mod Cells
pub mod Indexed
pub mod Places
pub mod Rules
pub mod Sights
pub mod Walks
