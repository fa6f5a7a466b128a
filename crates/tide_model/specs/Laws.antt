-- What holds after every lawful history, and in every legal one.
use Rattle.std.specs.Prelude.{ℕ, ◌≡◌, ◌↔◌, ◌%◌, Bool, true, List}
use Rattle.tide_model.specs.declared.entry.Entry.TheVariants.{Begin, End}
use Rattle.tide_model.specs.declared.entry.Event.{Event}
use Rattle.tide_model.specs.declared.op.Op.{Op}
use Rattle.tide_model.specs.declared.op.Refusal.{Refusal}
use Rattle.tide_model.specs.declared.op.Reply.TheVariants.{Refused}
use Rattle.tide_model.specs.Caller.{MakesCall}
use Rattle.tide_model.specs.Each.{Each}
use Rattle.tide_model.specs.Graph.{IsRetained, graph_of, no_cell}
use Rattle.tide_model.specs.Layout.{Layout}
use Rattle.tide_model.specs.History.{state_after}
use Rattle.tide_model.specs.Lawful.{IsLawful}
use Rattle.tide_model.specs.Numbers.{is_among}
use Rattle.tide_model.specs.Old.{IsOld, IsSpared}
use Rattle.tide_model.specs.Pace.{Pace}
use Rattle.tide_model.specs.Periods.{IsLegal, IsScheduled}
use Rattle.tide_model.specs.Prefix.{IsPrefix}
use Rattle.tide_model.specs.References.{ClaimsAreOwn, IsLive, RefsAreLive}
use Rattle.tide_model.specs.Refused.{ShapeLists}

-- in every lawful history no reference names a cell that isn't live
abbrev pub NoReferenceDangles : Type 0
NoReferenceDangles =
    (layout : Layout) (shapes : ShapeLists) (history : List Event) → IsLawful layout shapes history →
    RefsAreLive (state_after layout history)

-- in every lawful history no cell is claimed twice
abbrev pub NoCellIsClaimedTwice : Type 0
NoCellIsClaimedTwice =
    (layout : Layout) (shapes : ShapeLists) (history : List Event) → IsLawful layout shapes history →
    ClaimsAreOwn layout (state_after layout history)

-- in every lawful history each old cell is live
abbrev pub OldCellsAreLive : Type 0
OldCellsAreLive =
    (layout : Layout) (shapes : ShapeLists) (history : List Event) → IsLawful layout shapes history →
    (cell : ℕ) → IsOld layout history cell → IsLive (state_after layout history) cell

-- a beginning of a lawful history is lawful
abbrev pub BeginningsAreLawful : Type 0
BeginningsAreLawful =
    (layout : Layout) (shapes : ShapeLists) (before history : List Event) → IsPrefix before history →
    IsLawful layout shapes history → IsLawful layout shapes before

-- a call that is refused leaves the state that was right before it
abbrev pub RefusalsChangeNothing : Type 0
RefusalsChangeNothing =
    (layout : Layout) (shapes : ShapeLists) (who : ℕ) (op : Op) (refusal : Refusal)
    (old_seen new_seen old_mine new_mine : List Event) →
    (made : MakesCall layout shapes who op (Refused refusal) old_seen new_seen old_mine new_mine) →
    state_after layout new_seen ≡ state_after layout made.between

-- where the event ends a cycle, it frees just the live cells that nothing retains right before it
abbrev pub FreesTheUnretained : Layout → List Event → Event → Type 0
FreesTheUnretained layout before event =
    (cycle : ℕ) (freed : List ℕ) → event.entry ≡ End cycle freed → (cell : ℕ) →
    (is_among freed cell ≡ true)
    ↔ (IsLive (state_after layout before) cell × (IsRetained (graph_of (state_after layout before)) no_cell cell → ⊥))

-- in every legal history in which no cycle begins by itself, each cycle frees just the live cells that nothing retains
-- at its end
abbrev pub CyclesAreExact : Type 0
CyclesAreExact =
    (pace : Pace) (layout : Layout) (shapes : ShapeLists) (history : List Event) → IsLegal pace layout shapes history →
    pace.trigger ≡ 0 → Each (FreesTheUnretained layout) history

-- where the event begins a cycle whose number is a multiple of four, that is a full one
abbrev pub FourthBeginsFull : List Event → Event → Type 0
FourthBeginsFull before event =
    (cycle : ℕ) (full : Bool) → event.entry ≡ Begin cycle full → cycle % 4 ≡ 0 → full ≡ true

-- in every scheduled history each fourth cycle is a full one
abbrev pub FourthCyclesAreFull : Type 0
FourthCyclesAreFull =
    (pace : Pace) (layout : Layout) (history : List Event) → IsScheduled pace layout history →
    Each FourthBeginsFull history

-- where the event ends a cycle, it frees no cell that the cycle spares
abbrev pub FreesNoSpared : Layout → List Event → Event → Type 0
FreesNoSpared layout before event =
    (cycle : ℕ) (freed : List ℕ) → event.entry ≡ End cycle freed → (cell : ℕ) → IsSpared layout before cell →
    is_among freed cell ≡ true → ⊥

-- in every lawful history the end of an Eden cycle frees no old cell
abbrev pub EdenEndsKeepOld : Type 0
EdenEndsKeepOld =
    (layout : Layout) (shapes : ShapeLists) (history : List Event) → IsLawful layout shapes history →
    Each (FreesNoSpared layout) history
