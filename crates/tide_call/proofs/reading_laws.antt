-- The laws of reading: what the words read as, once those of a call are written.
pub mod ArrayRoom
pub mod BirthReading
pub mod CallFrame
pub mod CallReading
pub mod ClaimReading
pub mod FreeBits
pub mod GrowthReading
pub mod PairReading
pub mod PropertyReading
pub mod RootReading
pub mod SlotReading
