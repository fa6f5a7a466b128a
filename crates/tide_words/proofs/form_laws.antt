-- The laws of the word forms.
pub mod ColourBits
pub mod FormLaws
mod FormRows
