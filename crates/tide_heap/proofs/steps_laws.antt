pub mod Works
pub mod BeginsAndStops
pub mod EntryBirths
pub mod Allowing
pub mod Ties
pub mod Zeroing
