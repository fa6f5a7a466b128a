-- Worked words and worlds.
pub mod WordRows
pub mod BusyRow
pub mod PointRows
pub mod StoreRows
pub mod WitnessRows
pub mod AllowedRows
pub mod VisitRow
pub mod SweepRow
