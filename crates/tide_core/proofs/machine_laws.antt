pub mod WordLaws
pub mod steps
pub mod kinds
pub mod freezes
pub mod rows
pub mod Scheduling
pub mod KeptToEnd
