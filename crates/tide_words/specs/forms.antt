-- The words of values, structures, pairs, colours and references.
pub mod ColourWord
pub mod PairWord
pub mod Reference
pub mod StructureWord
pub mod ValueWord
