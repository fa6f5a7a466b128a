pub mod EndLaws
pub mod EntryLaws
pub mod FirstPauses
pub mod PointLaws
mod CallRows
mod WaveRows
