-- In no lawful history does a table get a key.
use Rattle.std.proofs.Common.{ℕ, ◌≡◌, refl, sym, subst, Bool, true, false, List, [], ◌∷◌, ◌++◌}
use Rattle.std.specs.Prelude.{if◌then◌else◌, ◌==◌, ◌&&◌, not, Option, None, Some}
use Rattle.tide_core.specs.machine.points.Tables.{TablesAreBare}
use Rattle.tide_model.proofs.Histories.{state_after-push, IsLawful-elim}
use Rattle.tide_model.proofs.ReferenceLaws.{after_call-refused, put_at_elim}
use Rattle.tide_model.specs.Answer.{IsAnswer, IsAnswerUnless, IsGranted}
use Rattle.tide_model.specs.Applied.{after_call, at_cell, put_cell, put_slot, add_property}
use Rattle.tide_model.specs.History.{after_entry, state_after}
use Rattle.tide_model.specs.Lawful.{IsLawful, Stands, StandsEntry}
use Rattle.tide_model.specs.Layout.{Layout, block_of_cell}
use Rattle.tide_model.specs.Refused.{ShapeLists, refusal_of, refusal_at, first_of, refuse_if, is_table, holds, has_key, may_add}
use Rattle.tide_model.specs.State.{State, CellState, is_dead, blank_cell, free}
use Rattle.tide_model.specs.declared.entry.Entry.{Entry}
use Rattle.tide_model.specs.declared.entry.Entry.TheVariants.{Call, Begin, Pause, Visits, End, Taken, Sweep, Open}
use Rattle.tide_model.specs.declared.entry.Event.{Event}
use Rattle.tide_model.specs.declared.op.Op.{Op}
use Rattle.tide_model.specs.declared.op.Op.TheVariants.{Alloc, Table, Get, Put, Move, Set, Drop, Claim, Release, Unclaim, Add, GetProp, SetProp, StrongSet, StrongGet, WeakSet, WeakGet, PairSet, PairGet, PairDel, Group, Collect, Retire}
use Rattle.tide_model.specs.declared.op.Refusal.{Refusal}
use Rattle.tide_model.specs.declared.op.Refusal.TheVariants.{IsTable, NotHeld, Present, NoShape}
use Rattle.tide_model.specs.declared.op.Reply.{Reply}
use Rattle.tide_model.specs.declared.op.Reply.TheVariants.{Done, Born, Seen, Asked, Refused}
use Rattle.tide_model.specs.declared.val.Val.{Val}
use Rattle.tide_model.specs.declared.val.Val.TheVariants.{Empty, Int, Cell}

-- one cell is another, which has no keys if it is a table
bare_cell : (layout : Layout) (state : State) (cell : ℕ) (held : CellState) → TablesAreBare layout state →
    (is_table layout cell ≡ true → held.keys ≡ []) → TablesAreBare layout (put_cell state cell held)
bare_cell layout state cell held bare here =
    put_at_elim (λ x held. is_table layout x ≡ true → held.keys ≡ []) state.cells cell held here (λ x apart. bare x)

-- a change at the cell that a value names
bare_at : (layout : Layout) (state : State) (value : Val) (change : ℕ → State) → TablesAreBare layout state →
    ((cell : ℕ) → value ≡ Cell cell → TablesAreBare layout (change cell)) →
    TablesAreBare layout (at_cell state value change)
bare_at layout state Empty change bare each = bare
bare_at layout state (Int n) change bare each = bare
bare_at layout state (Cell cell) change bare each = each cell refl

bare_slot : (layout : Layout) (state : State) (source : Val) (slot : ℕ) (value : Val) → TablesAreBare layout state →
    TablesAreBare layout (put_slot state source slot value)
bare_slot layout state Empty slot value bare = bare
bare_slot layout state (Int n) slot value bare = bare
bare_slot layout state (Cell cell) slot value bare = bare_cell layout state cell _ bare (bare cell)

-- Add isn't refused only where there is no table
no_table : (table held present shape : Bool) →
    first_of (refuse_if table IsTable ∷ refuse_if (not held) NotHeld ∷ refuse_if present Present
    ∷ refuse_if (not shape) NoShape ∷ []) ≡ None → table ≡ false
no_table true held present shape none = absurd (cc)
no_table false held present shape none = refl

-- a call that is granted
bare_granted : (layout : Layout) (shapes : ShapeLists) (state : State) (who : ℕ) (op : Op) (reply : Reply)
    (took : Option ℕ) → TablesAreBare layout state → refusal_of layout shapes state who op ≡ None →
    IsGranted layout state who op reply took → TablesAreBare layout (after_call state who op reply took)
bare_granted layout shapes state who op (Refused refusal) took bare none granted =
    subst (TablesAreBare layout) (sym (after_call-refused state who op refusal took)) bare
bare_granted layout shapes state who (Alloc dst class) (Born cell) took bare none granted =
    bare_cell layout state cell (blank_cell _) bare (λ is. refl)
bare_granted layout shapes state who (Table dst) (Born cell) took bare none granted =
    bare_cell layout state cell (blank_cell _) bare (λ is. refl)
bare_granted layout shapes state who (Get dst src slot) (Seen value) took bare none granted = bare
bare_granted layout shapes state who (Put src slot val) Done took bare none granted =
    bare_slot layout state (state.registers who src) slot (state.registers who val) bare
bare_granted layout shapes state who (Move dst src) Done took bare none granted = bare
bare_granted layout shapes state who (Set dst n) Done took bare none granted = bare
bare_granted layout shapes state who (Drop dst) Done took bare none granted = bare
bare_granted layout shapes state who (Claim src) Done took bare none granted =
    bare_at layout state (state.registers who src) _ bare (λ cell is. bare)
bare_granted layout shapes state who (Release src) Done took bare none granted =
    bare_at layout state (state.registers who src) _ bare (λ cell is. bare)
bare_granted layout shapes state who Unclaim Done took bare none granted = bare
bare_granted layout shapes state who (Add src key val) Done took bare none granted = add (state.registers who src) none
  where
    add : (source : Val) →
        refusal_at source src (λ cell. first_of (
        refuse_if (is_table layout cell) IsTable
        ∷ refuse_if (not (holds state who cell)) NotHeld
        ∷ refuse_if (has_key state cell key) Present
        ∷ refuse_if (not (may_add shapes state cell key)) NoShape ∷ [])) ≡ None →
        TablesAreBare layout (at_cell state source (λ cell. add_property state cell key (state.registers who val) took))
    add Empty granted = bare
    add (Int n) granted = bare
    add (Cell cell) granted = bare_cell layout state cell _ bare (λ is.
        (let isnt = no_table (is_table layout cell) (holds state who cell) (has_key state cell key)
        (may_add shapes state cell key) granted in absurd (cc)))
bare_granted layout shapes state who (GetProp dst src key) (Seen value) took bare none granted = bare
bare_granted layout shapes state who (SetProp src key val) Done took bare none granted =
    bare_at layout state (state.registers who src) _ bare (λ cell is. bare_cell layout state cell _ bare (bare cell))
bare_granted layout shapes state who (StrongSet at val) Done took bare none granted = bare
bare_granted layout shapes state who (StrongGet dst at) (Seen value) took bare none granted = bare
bare_granted layout shapes state who (WeakSet at val) Done took bare none granted = bare
bare_granted layout shapes state who (WeakGet dst at) (Seen value) took bare none granted = bare
bare_granted layout shapes state who (PairSet src key val) Done took bare none granted =
    bare_at layout state (state.registers who src) _ bare (λ table is.
    bare_at layout state (state.registers who key) _ bare (λ cell is_key.
    bare_cell layout state table _ bare (bare table)))
bare_granted layout shapes state who (PairGet dst src key) (Seen value) took bare none granted = bare
bare_granted layout shapes state who (PairDel src key) Done took bare none granted =
    bare_at layout state (state.registers who src) _ bare (λ table is.
    bare_at layout state (state.registers who key) _ bare (λ cell is_key.
    bare_cell layout state table _ bare (bare table)))
bare_granted layout shapes state who (Group src n) Done took bare none granted =
    bare_at layout state (state.registers who src) _ bare (λ cell is. bare_cell layout state cell _ bare (bare cell))
bare_granted layout shapes state who Collect Asked took bare none granted = bare
bare_granted layout shapes state who Retire Done took bare none granted = bare
bare_granted layout shapes state who op reply took bare none granted = absurd granted

bare_call : (layout : Layout) (shapes : ShapeLists) (state : State) (who : ℕ) (op : Op) (reply : Reply)
    (took : Option ℕ) → TablesAreBare layout state → IsAnswer layout shapes state who op reply took →
    TablesAreBare layout (after_call state who op reply took)
bare_call layout shapes state who op reply took bare answers = by (refusal_of layout shapes state who op) refl answers
  where
    by : (refused : Option Refusal) → refusal_of layout shapes state who op ≡ refused →
        IsAnswerUnless refused layout state who op reply took → TablesAreBare layout (after_call state who op reply
        took)
    by None none granted = bare_granted layout shapes state who op reply took bare none granted
    by (Some refusal) is answer =
        subst (λ (r : Reply). TablesAreBare layout (after_call state who op r took)) (sym answer.1)
        (subst (TablesAreBare layout) (sym (after_call-refused state who op refusal took)) bare)

-- an event that stands
bare_event : (layout : Layout) (shapes : ShapeLists) (before : List Event) (event : Event) →
    TablesAreBare layout (state_after layout before) → Stands layout shapes before event →
    TablesAreBare layout (state_after layout (before ++ event ∷ []))
bare_event layout shapes before event bare stands =
    subst (TablesAreBare layout) (sym (state_after-push layout before event)) (step event.entry event.took stands)
  where
    swept : (b : Bool) (held : CellState) → held.keys ≡ [] → (if b then blank_cell free else held).keys ≡ []
    swept true held is = refl
    swept false held is = is

    step : (entry : Entry) (took : Option ℕ) → StandsEntry layout shapes before entry took →
        TablesAreBare layout (after_entry layout (state_after layout before) entry took)
    step (Call who op reply) took call =
        bare_call layout shapes (state_after layout before) who op reply took bare call.answers
    step (Begin cycle full) took _ = bare
    step (Pause visits) took _ = bare
    step (Visits who visits) took _ = bare
    step (End cycle freed) took ends = bare
    step (Taken block) took _ = bare
    step (Sweep block) took _ = λ cell is.
        (let held = (state_after layout before).cells cell in
        swept ((block_of_cell cell == block) && is_dead held.status) held (bare cell is))
    step (Open number run) took _ = bare

-- so in no lawful history has a table a key
pub TablesAreBare-lawful : (layout : Layout) (shapes : ShapeLists) (history : List Event) →
    IsLawful layout shapes history → TablesAreBare layout (state_after layout history)
TablesAreBare-lawful layout shapes =
    IsLawful-elim layout shapes (λ before. TablesAreBare layout (state_after layout before)) (λ cell is. refl)
    (bare_event layout shapes)
