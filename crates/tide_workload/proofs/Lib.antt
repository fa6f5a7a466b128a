pub mod DocumentLemmas
pub mod EachLemmas
pub mod PathLemmas
pub mod ScriptLemmas
pub mod ShapeLemmas
pub mod TableLemmas
pub mod TextLemmas
pub mod WorkLemmas
