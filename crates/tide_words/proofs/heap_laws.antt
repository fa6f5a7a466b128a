-- The laws of a heap's words, and of what they read as.
pub mod CellLaw
pub mod CellReading
pub mod EmptyReading
pub mod FieldLaws
mod FieldRows
pub mod Filling
pub mod FormReading
pub mod Frames
pub mod HeapLaws
pub mod LiveLaws
pub mod Parts
pub mod ReadGraph
pub mod ReadingLaws
pub mod RowPlaces
pub mod WriteLaws
