pub mod Ends
pub mod Reports
pub mod Rows
