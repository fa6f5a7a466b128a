pub mod marking_laws
pub mod snapshot_laws
