pub mod Growing
pub mod Grown
pub mod Known
pub mod Lists
pub mod Numbered
pub mod Stands
pub mod Tables
