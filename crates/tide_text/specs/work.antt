pub mod Examples
pub mod FieldNames
pub mod Keys
pub mod OpArguments
pub mod ReadOp
pub mod Words
pub mod Work
