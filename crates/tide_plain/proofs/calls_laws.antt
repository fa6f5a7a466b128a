pub mod Additions
pub mod Claiming
pub mod PairRefusals
pub mod Soundness
