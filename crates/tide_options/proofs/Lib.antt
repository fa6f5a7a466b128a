-- The lemmas of this crate.
pub mod Numbers
pub mod Reading
pub mod Rules
