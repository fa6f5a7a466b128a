-- The laws of actions: what a caller's own words say in a state, and what refuses its operations.
pub mod Acting
pub mod AdditionRoom
pub mod Callers
pub mod ClaimActions
pub mod ClaimWords
pub mod ClaimsKept
pub mod KeyReading
pub mod NeverForRoom
pub mod OwnLaws
pub mod PairCounts
pub mod PairPlaces
pub mod ActionsFit
pub mod RefusalLaws
pub mod TakenLaws
pub mod Told
