-- The lemmas of this crate.
pub mod Causes
pub mod Counted
pub mod Printed
pub mod Shown
pub mod running_laws
