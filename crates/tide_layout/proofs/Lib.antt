pub mod ClassWidths
mod FirstsLaws
mod LayoutRows
pub mod LimitLaws
pub mod Places
pub mod SlotPlaces
pub mod StartLaws
