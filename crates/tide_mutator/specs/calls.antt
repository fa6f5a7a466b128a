pub mod Called
pub mod Growing
pub mod Owning
pub mod Actions
pub mod Viewed
