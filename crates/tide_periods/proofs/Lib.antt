-- The lemmas of this crate.
pub mod CursorLaws
pub mod Composing
pub mod CycleLaws
pub mod Freezing
pub mod FullCollections
pub mod LeftLaws
pub mod OwnShares
pub mod Parting
pub mod PartLoops
pub mod Quiet
pub mod RecordedLaws
pub mod RoomLaws
pub mod Running
pub mod Sharing
pub mod Starting
