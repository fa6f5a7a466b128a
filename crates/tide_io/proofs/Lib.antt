pub mod ChainLaws
pub mod GatheringLaws
