pub mod statuses
pub mod parts
pub mod stored
pub mod collect
pub mod calls
