-- No lawful history leaves a reference to a cell that isn't live.
use Rattle.std.proofs.Common.{ℕ, sym, subst, List, [], ◌∷◌, ◌++◌}
use Rattle.std.specs.Prelude.{Option}
use Rattle.tide_model.specs.declared.entry.Entry.{Entry}
use Rattle.tide_model.specs.declared.entry.Entry.TheVariants.{Call, Begin, Pause, Visits, End, Taken, Sweep, Open}
use Rattle.tide_model.specs.declared.entry.Event.{Event}
use Rattle.tide_model.specs.Layout.{Layout}
use Rattle.tide_model.specs.State.{State, marking}
use Rattle.tide_model.specs.History.{after_entry, state_after}
use Rattle.tide_model.specs.Old.{IsSpared}
use Rattle.tide_model.specs.Refused.{ShapeLists}
use Rattle.tide_model.specs.Lawful.{IsLawful, Stands, StandsEntry}
use Rattle.tide_model.specs.References.{RefsAreLive}
use Rattle.tide_model.proofs.Histories.{state_after-push, IsLawful-elim}
use Rattle.tide_model.proofs.ReferenceLaws.{RefsAreLive-call}
use Rattle.tide_model.proofs.ReferenceSteps.{RefsAreLive-empty}
use Rattle.tide_model.proofs.ReferencesInCycles.{RefsAreLive-end, RefsAreLive-phase, RefsAreLive-sweep}

-- an event that stands keeps references to live cells
pub RefsAreLive-event : (layout : Layout) (shapes : ShapeLists) (before : List Event) (event : Event) →
    RefsAreLive (state_after layout before) → Stands layout shapes before event → RefsAreLive (state_after layout (before ++ event ∷ []))
RefsAreLive-event layout shapes before event refs stands =
    subst RefsAreLive (sym (state_after-push layout before event)) (step event.entry event.took stands)
  where
    now : State
    now = state_after layout before

    step : (entry : Entry) (took : Option ℕ) → StandsEntry layout shapes before entry took → RefsAreLive (after_entry layout now entry took)
    step (Call who op reply) took call = RefsAreLive-call layout shapes now who op reply took refs call.is_active call.answers
    step (Begin cycle full) took _ = RefsAreLive-phase now (marking cycle) refs
    step (Pause visits) took _ = refs
    step (Visits who visits) took _ = refs
    step (End cycle freed) took ends = RefsAreLive-end now (IsSpared layout before) freed refs ends.1.closed ends.1.were_live
    step (Taken block) took _ = refs
    step (Sweep block) took _ = RefsAreLive-sweep layout now block refs
    step (Open number run) took _ = refs

-- so in no lawful history does a reference name a cell that isn't live
pub RefsAreLive-lawful : (layout : Layout) (shapes : ShapeLists) (history : List Event) → IsLawful layout shapes history → RefsAreLive (state_after layout history)
RefsAreLive-lawful layout shapes =
    IsLawful-elim layout shapes (λ before. RefsAreLive (state_after layout before)) RefsAreLive-empty (RefsAreLive-event layout shapes)
