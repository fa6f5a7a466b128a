-- The laws of carrying out an action that is no growth.
pub mod Acted
pub mod AppendSteps
pub mod Asking
pub mod Filling
pub mod Fitting
pub mod GroupSteps
pub mod PropertySteps
pub mod Retiring
