-- The machine of atomic steps: what each step does, and which are allowed.
use Rattle.std.specs.Prelude.{ℕ, Option}
use Rattle.tide_core.specs.machine.Entries.{entry_of, added}
use Rattle.tide_core.specs.machine.Kind.{Kind, region_of, index_of, act_of, acted, Split, Join, Activate, StoreStopped, Retire, LoadRegister, StoreRegister, LoadCall, StoreCall, LoadStrong, StoreStrong, LoadWeak, StoreWeak, LoadLink, StoreLink, LoadColour, Regrey, PushBit, LoadFree, TakeFree, StoreBorn, LoadPair, StorePair, StoreGroup, LoadClaim, TakeClaim, Release, LoadElement, StoreElement, TakeArray, Nuke, LoadOwnArray, StoreArray, LoadOwnStructure, StoreStructure, SwapGrey, Blacken, LoadStructure, LoadArray, LoadSlot, LoadElementOf, LoadAgain, LoadTarget, Mark, UnBlacken, PushRace, Publish, ClaimBlock, LoadDead, ZeroWord, GiveBits, Finish}
use Rattle.tide_core.specs.machine.May.{RunsAsMutator}
use Rattle.tide_core.specs.machine.Views.{view_after}
use Rattle.tide_core.specs.machine.World.{World}
use Rattle.tide_core.specs.machine.kinds.Activate.{MayActivate}
use Rattle.tide_core.specs.machine.kinds.Blacken.{MayBlacken}
use Rattle.tide_core.specs.machine.kinds.ClaimCell.{MayLoadClaim, MayTakeClaim}
use Rattle.tide_core.specs.machine.kinds.Join.{MayJoin}
use Rattle.tide_core.specs.machine.kinds.LoadAgain.{MayLoadAgain}
use Rattle.tide_core.specs.machine.kinds.LoadArray.{MayLoadArray}
use Rattle.tide_core.specs.machine.kinds.LoadColour.{MayLoadColour}
use Rattle.tide_core.specs.machine.kinds.LoadFree.{MayLoadFree}
use Rattle.tide_core.specs.machine.kinds.LoadLink.{MayLoadLink}
use Rattle.tide_core.specs.machine.kinds.LoadSlot.{MayLoadSlot, MayLoadElementOf}
use Rattle.tide_core.specs.machine.kinds.LoadStructure.{MayLoadStructure}
use Rattle.tide_core.specs.machine.kinds.LoadTarget.{MayLoadTarget}
use Rattle.tide_core.specs.machine.kinds.Mark.{MayMark}
use Rattle.tide_core.specs.machine.kinds.Nuke.{MayNuke}
use Rattle.tide_core.specs.machine.kinds.Publish.{MayPublish}
use Rattle.tide_core.specs.machine.kinds.PushBit.{MayPushBit}
use Rattle.tide_core.specs.machine.kinds.PushRace.{MayPushRace}
use Rattle.tide_core.specs.machine.kinds.RegisterCall.{MayLoadRegister, MayStoreRegister, MayStoreCall}
use Rattle.tide_core.specs.machine.kinds.Regrey.{MayRegrey}
use Rattle.tide_core.specs.machine.kinds.ReleaseCell.{MayRelease}
use Rattle.tide_core.specs.machine.kinds.Retire.{MayRetire}
use Rattle.tide_core.specs.machine.kinds.Split.{MaySplit}
use Rattle.tide_core.specs.machine.kinds.StoreArray.{MayStoreArray, MayLoadOwn}
use Rattle.tide_core.specs.machine.kinds.StoreBorn.{MayStoreBorn}
use Rattle.tide_core.specs.machine.kinds.StoreLink.{MayStoreLink}
use Rattle.tide_core.specs.machine.kinds.StorePlainWord.{MayLoadPair, MayStorePair, MayStoreGroup}
use Rattle.tide_core.specs.machine.kinds.StorePrivateElement.{MayLoadElement, MayStoreElement}
use Rattle.tide_core.specs.machine.kinds.StoreRootWord.{MayLoadStrong, MayStoreStrong, MayLoadWeak, MayStoreWeak}
use Rattle.tide_core.specs.machine.kinds.StoreStopped.{MayStoreStopped}
use Rattle.tide_core.specs.machine.kinds.StoreStructure.{MayStoreStructure}
use Rattle.tide_core.specs.machine.kinds.SwapGrey.{MaySwapGrey}
use Rattle.tide_core.specs.machine.kinds.Sweep.{MayClaimBlock, MayFinish, MayGiveBits, MayLoadDead, MayZeroWord}
use Rattle.tide_core.specs.machine.kinds.TakeArray.{MayTakeArray}
use Rattle.tide_core.specs.machine.kinds.TakeFree.{MayTakeFree}
use Rattle.tide_core.specs.machine.kinds.UnBlacken.{MayUnBlacken}
use Rattle.tide_model.specs.History.{state_after}
use Rattle.tide_model.specs.Layout.{Layout}
use Rattle.tide_model.specs.Numbers.{put_at}
use Rattle.tide_model.specs.Refused.{ShapeLists}
use Rattle.tide_model.specs.declared.entry.Event.{Event}
use Rattle.tide_words.specs.heap.Heap.{write}

-- the word that a step finds
abbrev pub found : Layout → World → ℕ → Kind → ℕ
found layout w me kind = w.heap (region_of kind) (index_of layout me kind)

-- the entry that it makes, if it makes one
abbrev pub made : Layout → ShapeLists → World → ℕ → Kind → Option Event
made layout shapes w me kind = entry_of layout shapes (state_after layout w.log) me kind (found layout w me kind)

-- a participant's step: one word changes, its own view, and the history by one entry at most
abbrev pub stepped : Layout → ShapeLists → World → ℕ → Kind → World
stepped layout shapes w me kind = record {
  heap = write w.heap (region_of kind) (index_of layout me kind) (acted (act_of kind) (found layout w me kind));
  part = put_at w.part me (view_after layout shapes w.log me kind (found layout w me kind) (w.part me));
  log = added w.log (made layout shapes w me kind);
}

-- What a participant may do: what each kind asks of its view and of the entry that the step makes.
abbrev pub IsAllowed : Layout → ShapeLists → World → ℕ → Kind → Type 0
IsAllowed layout shapes w me Split = MaySplit w me
IsAllowed layout shapes w me (Join ticket) = MayJoin w me ticket
IsAllowed layout shapes w me Activate = MayActivate w me
IsAllowed layout shapes w me (StoreStopped period) = MayStoreStopped layout w me period
IsAllowed layout shapes w me (Retire made) = MayRetire layout shapes w me made
IsAllowed layout shapes w me (LoadRegister register) = MayLoadRegister layout w me
IsAllowed layout shapes w me (StoreRegister register word made) =
    MayStoreRegister layout shapes w me register word made
IsAllowed layout shapes w me LoadCall = RunsAsMutator layout w me
IsAllowed layout shapes w me (StoreCall word made) = MayStoreCall layout shapes w me word made
IsAllowed layout shapes w me (LoadStrong handle made) =
    MayLoadStrong layout shapes w me handle (found layout w me (LoadStrong handle made)) made
IsAllowed layout shapes w me (StoreStrong handle word made) = MayStoreStrong layout shapes w me handle word made
IsAllowed layout shapes w me (LoadWeak handle made) =
    MayLoadWeak layout shapes w me handle (found layout w me (LoadWeak handle made)) made
IsAllowed layout shapes w me (StoreWeak handle word made) = MayStoreWeak layout shapes w me handle word made
IsAllowed layout shapes w me (LoadLink cell slot made) =
    MayLoadLink layout shapes w me cell slot (found layout w me (LoadLink cell slot made)) made
IsAllowed layout shapes w me (StoreLink cell slot word made) = MayStoreLink layout shapes w me cell slot word made
IsAllowed layout shapes w me (LoadColour cell) = MayLoadColour layout w me cell
IsAllowed layout shapes w me (Regrey cell word cycle) = MayRegrey layout w me cell word cycle
IsAllowed layout shapes w me (PushBit cell) = MayPushBit layout w me cell
IsAllowed layout shapes w me (LoadFree block) = MayLoadFree layout w me block
IsAllowed layout shapes w me (TakeFree block k made) =
    MayTakeFree layout shapes w me block k (found layout w me (TakeFree block k made)) made
IsAllowed layout shapes w me (StoreBorn cell word) = MayStoreBorn layout w me cell word
IsAllowed layout shapes w me (LoadPair table place made) =
    MayLoadPair layout shapes w me table place (found layout w me (LoadPair table place made)) made
IsAllowed layout shapes w me (StorePair table place word made) = MayStorePair layout shapes w me table place word made
IsAllowed layout shapes w me (StoreGroup cell word made) = MayStoreGroup layout shapes w me cell word made
IsAllowed layout shapes w me (LoadClaim cell made) = MayLoadClaim layout shapes w me cell made
IsAllowed layout shapes w me (TakeClaim cell holder made) =
    MayTakeClaim layout shapes w me cell holder (found layout w me (TakeClaim cell holder made)) made
IsAllowed layout shapes w me (Release cell made) = MayRelease layout shapes w me cell made
IsAllowed layout shapes w me (LoadElement array place made) =
    MayLoadElement layout shapes w me array place (found layout w me (LoadElement array place made)) made
IsAllowed layout shapes w me (StoreElement array place word made) =
    MayStoreElement layout shapes w me array place word made
IsAllowed layout shapes w me (TakeArray block k old next made) =
    MayTakeArray layout shapes w me block k old next (found layout w me (TakeArray block k old next made)) made
IsAllowed layout shapes w me (Nuke cell word) = MayNuke layout w me cell word
IsAllowed layout shapes w me (LoadOwnArray cell) = MayLoadOwn layout w me cell
IsAllowed layout shapes w me (StoreArray cell array) = MayStoreArray layout w me cell array
IsAllowed layout shapes w me (LoadOwnStructure cell) = MayLoadOwn layout w me cell
IsAllowed layout shapes w me (StoreStructure cell word made) = MayStoreStructure layout shapes w me cell word made
IsAllowed layout shapes w me (SwapGrey grey block) = MaySwapGrey layout w me grey block
IsAllowed layout shapes w me (Blacken cell cycle) = MayBlacken layout w me cell cycle
IsAllowed layout shapes w me (LoadStructure cell) = MayLoadStructure layout w me cell
IsAllowed layout shapes w me (LoadArray cell) = MayLoadArray layout w me cell
IsAllowed layout shapes w me (LoadSlot cell slot) = MayLoadSlot layout w me cell slot
IsAllowed layout shapes w me (LoadElementOf array place) = MayLoadElementOf layout w me array place
IsAllowed layout shapes w me (LoadAgain cell) = MayLoadAgain layout w me cell
IsAllowed layout shapes w me (LoadTarget cell) = MayLoadTarget layout w me cell
IsAllowed layout shapes w me (Mark cell old cycle) = MayMark layout w me cell old cycle
IsAllowed layout shapes w me (UnBlacken cell cycle) = MayUnBlacken layout w me cell cycle
IsAllowed layout shapes w me (PushRace cell) = MayPushRace w me cell
IsAllowed layout shapes w me (Publish block mask) = MayPublish layout w me block mask
IsAllowed layout shapes w me (ClaimBlock block old cycle) =
    MayClaimBlock layout shapes w me block old cycle (found layout w me (ClaimBlock block old cycle))
IsAllowed layout shapes w me (LoadDead block) = MayLoadDead layout w me block
IsAllowed layout shapes w me (ZeroWord at index) = MayZeroWord layout w me at index
IsAllowed layout shapes w me (GiveBits block bits) = MayGiveBits layout shapes w me block bits
IsAllowed layout shapes w me (Finish block) = MayFinish layout w me block
