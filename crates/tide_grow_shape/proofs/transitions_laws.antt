pub mod CellLaws
pub mod EdgeLaws
pub mod GrownLaws
pub mod MergeLaws
pub mod PlaceLaws
mod ShapeRows
pub mod SightLaws
pub mod WalkLaws
