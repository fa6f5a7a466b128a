pub mod owed_laws
pub mod cells_laws
pub mod calls_laws
