-- The kinds of step that a participant makes between its beginning and its stop, and for which a pass has a call.
use Rattle.std.specs.Int.{bit_at}
use Rattle.std.specs.Prelude.{ℕ, ◌+◌, Bool, true, false, Some, ◌==◌, if◌then◌else◌}
use Rattle.tide_core.specs.machine.Kind.{Kind, Retire, LoadRegister, StoreRegister, LoadCall, StoreCall, LoadStrong, StoreStrong, LoadWeak, StoreWeak, LoadLink, StoreLink, LoadColour, Regrey, PushBit, LoadFree, TakeFree, StoreBorn, LoadPair, StorePair, StoreGroup, LoadClaim, TakeClaim, Release, LoadElement, StoreElement, TakeArray, Nuke, LoadOwnArray, StoreArray, LoadOwnStructure, StoreStructure, SwapGrey, Blacken, LoadStructure, LoadArray, LoadSlot, LoadElementOf, LoadAgain, LoadTarget, Mark, UnBlacken, PushRace, Publish, ClaimBlock, LoadDead, ZeroWord, GiveBits, Finish}

-- the kind is one of them
abbrev pub is_work : Kind → Bool
is_work (Retire made) = true
is_work (LoadRegister register) = true
is_work (StoreRegister register word made) = true
is_work LoadCall = true
is_work (StoreCall word made) = true
is_work (LoadStrong handle made) = true
is_work (StoreStrong handle word made) = true
is_work (LoadWeak handle made) = true
is_work (StoreWeak handle word made) = true
is_work (LoadLink cell slot made) = true
is_work (StoreLink cell slot word made) = true
is_work (LoadColour cell) = true
is_work (Regrey cell old cycle) = true
is_work (PushBit cell) = true
is_work (LoadFree block) = true
is_work (TakeFree block k made) = true
is_work (StoreBorn cell word) = true
is_work (LoadPair table place made) = true
is_work (StorePair table place word made) = true
is_work (StoreGroup cell word made) = true
is_work (LoadClaim cell made) = true
is_work (TakeClaim cell holder made) = true
is_work (Release cell made) = true
is_work (LoadElement array place made) = true
is_work (StoreElement array place word made) = true
is_work (TakeArray block k old next made) = true
is_work (Nuke cell word) = true
is_work (LoadOwnArray cell) = true
is_work (StoreArray cell array) = true
is_work (LoadOwnStructure cell) = true
is_work (StoreStructure cell word made) = true
is_work (SwapGrey grey block) = true
is_work (Blacken cell cycle) = true
is_work (LoadStructure cell) = true
is_work (LoadArray cell) = true
is_work (LoadSlot cell slot) = true
is_work (LoadElementOf array place) = true
is_work (LoadAgain cell) = true
is_work (LoadTarget cell) = true
is_work (Mark cell old cycle) = true
is_work (UnBlacken cell cycle) = true
is_work (PushRace cell) = true
is_work (Publish block mask) = true
is_work (ClaimBlock block old cycle) = true
is_work (LoadDead block) = true
is_work (ZeroWord at index) = true
is_work (GiveBits block bits) = true
is_work (Finish block) = true
is_work _ = false

-- how many cells were born to a participant after a step of the kind that finds this word
abbrev pub born_after : Kind → ℕ → ℕ → ℕ
born_after (TakeFree block k (Some op)) read born = if bit_at read k == 1 then born + 1 else born
born_after _ read born = born

-- the kind is a visit: a cell is made black
abbrev pub is_visit : Kind → Bool
is_visit (Blacken cell cycle) = true
is_visit _ = false

-- how many cells a participant made black after a step of the kind
abbrev pub visits_after : Kind → ℕ → ℕ
visits_after kind visits = if is_visit kind then visits + 1 else visits

-- the participant leaves for good
abbrev pub is_leave : Kind → Bool
is_leave (Retire made) = true
is_leave _ = false

-- a work that changes none of these three
abbrev pub is_plain : Kind → Bool
is_plain (Retire made) = false
is_plain (TakeFree block k made) = false
is_plain (Blacken cell cycle) = false
is_plain kind = is_work kind
