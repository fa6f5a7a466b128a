-- The kinds whose law is proved.
use Rattle.std.specs.Prelude.{Bool, true, false, ◌||◌}
use Rattle.tide_core.specs.machine.Kind.{Kind, Split, Join, Activate, StoreStopped, Retire, LoadRegister, StoreRegister, LoadCall, StoreCall, LoadStrong, StoreStrong, LoadWeak, StoreWeak, LoadLink, StoreLink, LoadColour, Regrey, PushBit, StoreBorn, TakeFree, LoadFree, LoadClaim, TakeClaim, Release, SwapGrey, Blacken, LoadStructure, LoadArray, LoadElementOf, LoadSlot, LoadAgain, UnBlacken, PushRace, Publish, LoadTarget, Mark, LoadPair, StorePair, StoreGroup, LoadOwnArray, LoadOwnStructure, LoadElement, StoreElement, TakeArray, Nuke, StoreArray, StoreStructure, ClaimBlock, LoadDead, ZeroWord, GiveBits, Finish}

-- a participant begins, hears and stops, a mutator retires, and works with its own words and with handles
abbrev pub is_of_first_group : Kind → Bool
is_of_first_group Split = true
is_of_first_group (Join ticket) = true
is_of_first_group Activate = true
is_of_first_group (StoreStopped period) = true
is_of_first_group (Retire made) = true
is_of_first_group (LoadRegister register) = true
is_of_first_group (StoreRegister register word made) = true
is_of_first_group LoadCall = true
is_of_first_group (StoreCall word made) = true
is_of_first_group (LoadStrong handle made) = true
is_of_first_group (StoreStrong handle word made) = true
is_of_first_group (LoadWeak handle made) = true
is_of_first_group (StoreWeak handle word made) = true
is_of_first_group _ = false

-- a mutator works with slots, pays the barrier, takes a cell or finds none, and colours a new one
abbrev pub is_of_second_group : Kind → Bool
is_of_second_group (LoadLink cell slot made) = true
is_of_second_group (StoreLink cell slot word made) = true
is_of_second_group (LoadColour cell) = true
is_of_second_group (Regrey cell word cycle) = true
is_of_second_group (PushBit cell) = true
is_of_second_group (LoadFree block) = true
is_of_second_group (TakeFree block k made) = true
is_of_second_group (StoreBorn cell word) = true
is_of_second_group _ = false

-- a mutator claims cells and gives claims back
abbrev pub is_of_claims : Kind → Bool
is_of_claims (LoadClaim cell made) = true
is_of_claims (TakeClaim cell holder made) = true
is_of_claims (Release cell made) = true
is_of_claims _ = false

-- a visitor takes grey cells and makes one black, reads the structure, the slots and the array of the cell that it
-- scans, marks what it read, gives up a raced cell, and publishes its stack
abbrev pub is_of_visits : Kind → Bool
is_of_visits (SwapGrey grey block) = true
is_of_visits (Blacken cell cycle) = true
is_of_visits (LoadStructure cell) = true
is_of_visits (LoadArray cell) = true
is_of_visits (LoadElementOf array place) = true
is_of_visits (LoadSlot cell slot) = true
is_of_visits (LoadAgain cell) = true
is_of_visits (LoadTarget cell) = true
is_of_visits (Mark cell old cycle) = true
is_of_visits (UnBlacken cell cycle) = true
is_of_visits (PushRace cell) = true
is_of_visits (Publish block mask) = true
is_of_visits _ = false

-- a mutator stores the group of a cell, and works with the pairs of a table that it claims
abbrev pub is_of_pairs : Kind → Bool
is_of_pairs (LoadPair table place made) = true
is_of_pairs (StorePair table place word made) = true
is_of_pairs (StoreGroup cell word made) = true
is_of_pairs _ = false

-- a mutator works with the structure, the array and the properties of a cell that it claims
abbrev pub is_of_properties : Kind → Bool
is_of_properties (LoadOwnArray cell) = true
is_of_properties (LoadOwnStructure cell) = true
is_of_properties (LoadElement array place made) = true
is_of_properties (StoreElement array place word made) = true
is_of_properties (TakeArray block k old next made) = true
is_of_properties (Nuke cell word) = true
is_of_properties (StoreArray cell array) = true
is_of_properties (StoreStructure cell word made) = true
is_of_properties _ = false

-- a mutator sweeps a block
abbrev pub is_of_sweeps : Kind → Bool
is_of_sweeps (ClaimBlock block old cycle) = true
is_of_sweeps (LoadDead block) = true
is_of_sweeps (ZeroWord at index) = true
is_of_sweeps (GiveBits block bits) = true
is_of_sweeps (Finish block) = true
is_of_sweeps _ = false

-- the law of the kind is proved
abbrev pub has_law : Kind → Bool
has_law kind = is_of_first_group kind || (is_of_second_group kind || (is_of_claims kind || (is_of_visits kind
    || (is_of_pairs kind || (is_of_properties kind || is_of_sweeps kind)))))
