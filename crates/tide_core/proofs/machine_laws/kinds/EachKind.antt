-- Each kind that anybody is allowed has a law.
use Rattle.std.proofs.Common.{ℕ, ◌≡◌, refl, true}
use Rattle.tide_core.specs.machine.Groups.{has_law}
use Rattle.tide_core.specs.machine.Kind.{Kind, Split, Join, Activate, StoreStopped, Retire, LoadRegister, StoreRegister, LoadCall, StoreCall, LoadStrong, StoreStrong, LoadWeak, StoreWeak, LoadLink, StoreLink, LoadColour, Regrey, PushBit, LoadFree, TakeFree, StoreBorn, LoadPair, StorePair, StoreGroup, LoadClaim, TakeClaim, Release, LoadElement, StoreElement, TakeArray, Nuke, LoadOwnArray, StoreArray, LoadOwnStructure, StoreStructure, SwapGrey, Blacken, LoadStructure, LoadArray, LoadSlot, LoadElementOf, LoadAgain, LoadTarget, Mark, UnBlacken, PushRace, Publish, ClaimBlock, LoadDead, ZeroWord, GiveBits, Finish}
use Rattle.tide_core.specs.machine.Machine.{IsAllowed}
use Rattle.tide_core.specs.machine.World.{World}
use Rattle.tide_model.specs.Layout.{Layout}
use Rattle.tide_model.specs.Refused.{ShapeLists}

pub allowed_has_law : (layout : Layout) (shapes : ShapeLists) (w : World) (me : ℕ) (kind : Kind) →
    IsAllowed layout shapes w me kind → has_law kind ≡ true
allowed_has_law layout shapes w me (ClaimBlock block old cycle) may = refl
allowed_has_law layout shapes w me (LoadDead block) may = refl
allowed_has_law layout shapes w me (ZeroWord at index) may = refl
allowed_has_law layout shapes w me (GiveBits block bits) may = refl
allowed_has_law layout shapes w me (Finish block) may = refl
allowed_has_law layout shapes w me Split may = refl
allowed_has_law layout shapes w me (Join ticket) may = refl
allowed_has_law layout shapes w me Activate may = refl
allowed_has_law layout shapes w me (StoreStopped period) may = refl
allowed_has_law layout shapes w me (Retire made) may = refl
allowed_has_law layout shapes w me (LoadRegister register) may = refl
allowed_has_law layout shapes w me (StoreRegister register word made) may = refl
allowed_has_law layout shapes w me LoadCall may = refl
allowed_has_law layout shapes w me (StoreCall word made) may = refl
allowed_has_law layout shapes w me (LoadStrong handle made) may = refl
allowed_has_law layout shapes w me (StoreStrong handle word made) may = refl
allowed_has_law layout shapes w me (LoadWeak handle made) may = refl
allowed_has_law layout shapes w me (StoreWeak handle word made) may = refl
allowed_has_law layout shapes w me (LoadLink cell slot made) may = refl
allowed_has_law layout shapes w me (StoreLink cell slot word made) may = refl
allowed_has_law layout shapes w me (LoadColour cell) may = refl
allowed_has_law layout shapes w me (Regrey cell word cycle) may = refl
allowed_has_law layout shapes w me (PushBit cell) may = refl
allowed_has_law layout shapes w me (LoadFree block) may = refl
allowed_has_law layout shapes w me (TakeFree block k made) may = refl
allowed_has_law layout shapes w me (StoreBorn cell word) may = refl
allowed_has_law layout shapes w me (LoadPair table place made) may = refl
allowed_has_law layout shapes w me (StorePair table place word made) may = refl
allowed_has_law layout shapes w me (StoreGroup cell word made) may = refl
allowed_has_law layout shapes w me (LoadClaim cell made) may = refl
allowed_has_law layout shapes w me (TakeClaim cell holder made) may = refl
allowed_has_law layout shapes w me (Release cell made) may = refl
allowed_has_law layout shapes w me (LoadElement array place made) may = refl
allowed_has_law layout shapes w me (StoreElement array place word made) may = refl
allowed_has_law layout shapes w me (TakeArray block k old next made) may = refl
allowed_has_law layout shapes w me (Nuke cell word) may = refl
allowed_has_law layout shapes w me (LoadOwnArray cell) may = refl
allowed_has_law layout shapes w me (StoreArray cell array) may = refl
allowed_has_law layout shapes w me (LoadOwnStructure cell) may = refl
allowed_has_law layout shapes w me (StoreStructure cell word made) may = refl
allowed_has_law layout shapes w me (SwapGrey grey block) may = refl
allowed_has_law layout shapes w me (Blacken cell cycle) may = refl
allowed_has_law layout shapes w me (LoadStructure cell) may = refl
allowed_has_law layout shapes w me (LoadArray cell) may = refl
allowed_has_law layout shapes w me (LoadSlot cell slot) may = refl
allowed_has_law layout shapes w me (LoadElementOf array place) may = refl
allowed_has_law layout shapes w me (LoadAgain cell) may = refl
allowed_has_law layout shapes w me (LoadTarget cell) may = refl
allowed_has_law layout shapes w me (Mark cell old cycle) may = refl
allowed_has_law layout shapes w me (UnBlacken cell cycle) may = refl
allowed_has_law layout shapes w me (PushRace cell) may = refl
allowed_has_law layout shapes w me (Publish block mask) may = refl
