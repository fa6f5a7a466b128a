-- What a participant's view becomes by a step of its own, kind by kind.
use Rattle.std.specs.Prelude.{ℕ, List, [], ◌∷◌, ◌++◌, Option, None, Some, if◌then◌else◌}
use Rattle.tide_core.specs.machine.Entries.{entry_of}
use Rattle.tide_core.specs.machine.Kind.{Kind, Split, Join, Activate, StoreStopped, Retire, LoadRegister, StoreRegister, LoadCall, StoreCall, LoadStrong, StoreStrong, LoadWeak, StoreWeak, LoadLink, StoreLink, LoadColour, Regrey, PushBit, LoadFree, TakeFree, StoreBorn, LoadPair, StorePair, StoreGroup, LoadClaim, TakeClaim, Release, LoadElement, StoreElement, TakeArray, Nuke, LoadOwnArray, StoreArray, LoadOwnStructure, StoreStructure, SwapGrey, Blacken, LoadStructure, LoadArray, LoadSlot, LoadElementOf, LoadAgain, LoadTarget, Mark, UnBlacken, PushRace, Publish, ClaimBlock, LoadDead, ZeroWord, GiveBits, Finish}
use Rattle.tide_core.specs.machine.May.{called}
use Rattle.tide_core.specs.declared.machine.view.View.{View}
use Rattle.tide_core.specs.machine.kinds.Activate.{begun_view}
use Rattle.tide_core.specs.machine.kinds.Blacken.{blackened_view}
use Rattle.tide_core.specs.machine.kinds.ClaimCell.{claim_view}
use Rattle.tide_core.specs.machine.kinds.Join.{joined_view}
use Rattle.tide_core.specs.machine.kinds.LoadAgain.{again_view}
use Rattle.tide_core.specs.machine.kinds.LoadArray.{scanned_array_view}
use Rattle.tide_core.specs.machine.kinds.LoadColour.{coloured_view}
use Rattle.tide_core.specs.machine.kinds.LoadFree.{looked_view}
use Rattle.tide_core.specs.machine.kinds.LoadSlot.{slot_view, scanned_element_view}
use Rattle.tide_core.specs.machine.kinds.LoadStructure.{structure_view}
use Rattle.tide_core.specs.machine.kinds.LoadTarget.{target_view}
use Rattle.tide_core.specs.machine.kinds.Mark.{marked_view}
use Rattle.tide_core.specs.machine.kinds.Nuke.{nuked_view}
use Rattle.tide_core.specs.machine.kinds.Publish.{published_view}
use Rattle.tide_core.specs.machine.kinds.PushBit.{free_of_duty}
use Rattle.tide_core.specs.machine.kinds.RegisterCall.{registered_view, told_view}
use Rattle.tide_core.specs.machine.kinds.Regrey.{regreyed_view}
use Rattle.tide_core.specs.machine.kinds.Retire.{left_view}
use Rattle.tide_core.specs.machine.kinds.Split.{split_view}
use Rattle.tide_core.specs.machine.kinds.StoreArray.{stored_array_view, own_array_view}
use Rattle.tide_core.specs.machine.kinds.StoreLink.{linked_view}
use Rattle.tide_core.specs.machine.kinds.StorePlainWord.{paired_view}
use Rattle.tide_core.specs.machine.kinds.StorePrivateElement.{element_view, stored_element_view}
use Rattle.tide_core.specs.machine.kinds.StoreRootWord.{seen_view}
use Rattle.tide_core.specs.machine.kinds.StoreStopped.{stopped_view}
use Rattle.tide_core.specs.machine.kinds.StoreStructure.{own_structure_view, structured_view}
use Rattle.tide_core.specs.machine.kinds.SwapGrey.{swapped_view}
use Rattle.tide_core.specs.machine.kinds.Sweep.{claimed_view, dead_view, zeroed_view, given_view, finished_view}
use Rattle.tide_core.specs.machine.kinds.TakeArray.{array_view}
use Rattle.tide_core.specs.machine.kinds.TakeFree.{taken_view}
use Rattle.tide_core.specs.machine.kinds.UnBlacken.{un_blackened_view}
use Rattle.tide_model.specs.History.{state_after}
use Rattle.tide_model.specs.Layout.{Layout}
use Rattle.tide_model.specs.Refused.{ShapeLists}
use Rattle.tide_model.specs.Since.{is_call}
use Rattle.tide_model.specs.declared.entry.Event.{Event}

-- the fields that a step changes, beside what its participant has seen
abbrev pub changed : Layout → ShapeLists → List Event → ℕ → Kind → ℕ → View → View
changed layout shapes log me Split read v = split_view v
changed layout shapes log me (Join ticket) read v = joined_view ticket v
changed layout shapes log me Activate read v = begun_view v
changed layout shapes log me (StoreStopped period) read v = stopped_view v
changed layout shapes log me (Retire made) read v = left_view v
changed layout shapes log me (LoadRegister register) read v = v
changed layout shapes log me (StoreRegister register word made) read v = registered_view layout me register made v
changed layout shapes log me LoadCall read v = v
changed layout shapes log me (StoreCall word made) read v = told_view made v
changed layout shapes log me (LoadStrong handle made) read v = seen_view layout me read made v
changed layout shapes log me (StoreStrong handle word made) read v = called [] v
changed layout shapes log me (LoadWeak handle made) read v = seen_view layout me read made v
changed layout shapes log me (StoreWeak handle word made) read v = called [] v
changed layout shapes log me (LoadLink cell slot made) read v = seen_view layout me read made v
changed layout shapes log me (StoreLink cell slot word made) read v = linked_view cell word v
changed layout shapes log me (LoadColour cell) read v = coloured_view cell read v
changed layout shapes log me (Regrey cell word cycle) read v = regreyed_view cell word read v
changed layout shapes log me (PushBit cell) read v = free_of_duty v
changed layout shapes log me (LoadFree block) read v = looked_view log block read v
changed layout shapes log me (TakeFree block k made) read v = taken_view layout log me block k made read v
changed layout shapes log me (StoreBorn cell word) read v = free_of_duty v
changed layout shapes log me (LoadPair table place made) read v = paired_view layout me table place read made v
changed layout shapes log me (StorePair table place word made) read v = called [] v
changed layout shapes log me (StoreGroup cell word made) read v = called [] v
changed layout shapes log me (LoadClaim cell made) read v = claim_view made v
changed layout shapes log me (TakeClaim cell holder made) read v = called [] v
changed layout shapes log me (Release cell made) read v = called [] v
changed layout shapes log me (LoadElement array place made) read v = element_view layout me array place read made v
changed layout shapes log me (StoreElement array place word made) read v =
    stored_element_view layout (state_after layout log) me array place word made v
changed layout shapes log me (TakeArray block k old next made) read v =
    array_view layout log (state_after layout log) me block k old next made read v
changed layout shapes log me (Nuke cell word) read v = nuked_view v
changed layout shapes log me (LoadOwnArray cell) read v = own_array_view cell read v
changed layout shapes log me (StoreArray cell array) read v = stored_array_view cell v
changed layout shapes log me (LoadOwnStructure cell) read v = own_structure_view cell read v
changed layout shapes log me (StoreStructure cell word made) read v =
    structured_view (state_after layout log) me cell made v
changed layout shapes log me (SwapGrey grey block) read v = swapped_view grey block read v
changed layout shapes log me (Blacken cell cycle) read v = blackened_view layout cell v
changed layout shapes log me (LoadStructure cell) read v = structure_view read v
changed layout shapes log me (LoadArray cell) read v = scanned_array_view read v
changed layout shapes log me (LoadSlot cell slot) read v = slot_view slot read v
changed layout shapes log me (LoadElementOf array place) read v = scanned_element_view place read v
changed layout shapes log me (LoadAgain cell) read v = again_view read v
changed layout shapes log me (LoadTarget cell) read v = target_view cell read v
changed layout shapes log me (Mark cell old cycle) read v = marked_view cell old read v
changed layout shapes log me (UnBlacken cell cycle) read v = un_blackened_view cell cycle read v
changed layout shapes log me (PushRace cell) read v = free_of_duty v
changed layout shapes log me (Publish block mask) read v = published_view block mask v
changed layout shapes log me (ClaimBlock block old cycle) read v = claimed_view log block old cycle read v
changed layout shapes log me (LoadDead block) read v = dead_view log block read v
changed layout shapes log me (ZeroWord at index) read v = zeroed_view at index v
changed layout shapes log me (GiveBits block bits) read v = given_view v
changed layout shapes log me (Finish block) read v = finished_view v

-- what a participant has made, after an entry of its step: a call is its own
abbrev pub with_own : List Event → Event → List Event
with_own mine event = if is_call event.entry then mine ++ event ∷ [] else mine

-- a view that has seen an entry of its own step, with the history before it, or none
abbrev pub with_entry : List Event → Option Event → View → View
with_entry log None v = v
with_entry log (Some event) v = record v { seen = log ++ event ∷ []; mine = with_own v.mine event }

-- the view after a step that found this word, where the history before it was `log`
abbrev pub view_after : Layout → ShapeLists → List Event → ℕ → Kind → ℕ → View → View
view_after layout shapes log me kind read v =
    with_entry log (entry_of layout shapes (state_after layout log) me kind read)
    (changed layout shapes log me kind read v)
