-- The definitions of this crate.
pub mod Adapter
pub mod CallLog
pub mod Faults
pub mod Gathering
pub mod MemSink
pub mod MemSource
