pub mod two_mutators
pub mod visitor
