pub mod Among
pub mod Rule
pub mod Seats
