pub mod action_laws
pub mod reading_laws
