pub mod ArgumentLemmas
pub mod KeyLemmas
pub mod NameLemmas
pub mod NumeralLemmas
pub mod OperationLemmas
pub mod SeenLemmas
pub mod SpacedLemmas
pub mod WordLemmas
