-- What isn't free in a block stays so while a part runs, until the block is swept; and once nothing is dead there, it
-- stays so for good.
use Rattle.std.proofs.Common.{ℕ, suc, ◌≡◌, ◌+◌, ◌-◌, ◌%◌, ◌≤◌, ◌<◌, ◌⊎◌, inl, inr, refl, sym, ◌∙◌, ap, subst, arith, Bool, true, false, List, [], ◌∷◌, ◌++◌, length, drop, take, get_or}
use Rattle.std.proofs.lemmas.Bool.{and_parts, cases_eq, eq-eqb, eqb-true}
use Rattle.std.proofs.lemmas.List.{get_or-drop, get_or-take, length-drop, length-take, take-append-drop, take-take}
use Rattle.std.specs.Prelude.{Contains, Option, ◌==◌, ◌&&◌, if◌then◌else◌}
use Rattle.tide_model.proofs.CallKeeps.{HasCallStatuses, HasCallStatuses-call}
use Rattle.tide_model.proofs.DeadLaws.{HasNoNewDead-entry, had_dead}
use Rattle.tide_model.proofs.Histories.{state_after-append}
use Rattle.tide_model.specs.Applied.{after_call}
use Rattle.tide_model.specs.Cycle.{HasDead, dead_array, dead_cell}
use Rattle.tide_model.specs.History.{after_entry, after_event, after_sweep, state_after, state_at, state_from, swept_cell, swept_status}
use Rattle.tide_model.specs.Layout.{Layout, array_count, block_of_array, block_of_cell, cell_count}
use Rattle.tide_model.specs.Room.{IsFullBlock}
use Rattle.tide_model.specs.Since.{is_end, is_of_part}
use Rattle.tide_model.specs.State.{State, CellState, Status, blank_cell, dead, free, is_dead, is_free, live, spent}
use Rattle.tide_model.specs.declared.op.Op.{Op}
use Rattle.tide_model.specs.declared.op.Reply.{Reply}
use Rattle.tide_model.specs.declared.entry.Entry.{Entry}
use Rattle.tide_model.specs.declared.entry.Entry.TheVariants.{Begin, Call, End, Open, Pause, Sweep, Taken, Visits}
use Rattle.tide_model.specs.declared.entry.Event.{Event}

-- nothing of the block is dead
abbrev pub IsCleanBlock : Layout → State → ℕ → Type 0
IsCleanBlock layout state block = HasDead layout state block → ⊥

-- the cell or array of this bit of the block isn't free
pub record IsHeldAt (layout : Layout) (state : State) (block k : ℕ) : Type 0 where
  pub cells : (cell : ℕ) → cell < cell_count layout → block_of_cell cell ≡ block → cell % 64 ≡ k →
      is_free (state.cells cell).status ≡ false
  pub arrays : (array : ℕ) → array < array_count layout → block_of_array layout array ≡ block → array % 64 ≡ k →
      is_free (state.arrays array) ≡ false

-- where that is so of all its bits, the block is full
pub full_of_held : (layout : Layout) (state : State) (block : ℕ) → ((k : ℕ) → k < 64 → IsHeldAt layout state block k) →
    IsFullBlock layout state block
full_of_held layout state block held = record {
  cells = λ cell within at. (held (cell % 64) (omega arith)).cells cell within at refl;
  arrays = λ array within at. (held (array % 64) (omega arith)).arrays array within at refl;
}

not_free : {one other : Status} → is_free one ≡ false → (other ≡ one) ⊎ (other ≡ live) → is_free other ≡ false
not_free was (inl same) = ap is_free same ∙ was
not_free was (inr alive) = ap is_free alive

array_not_free : {one other : Status} → is_free one ≡ false → (other ≡ one) ⊎ ((other ≡ live) ⊎ (other ≡ spent)) →
    is_free other ≡ false
array_not_free was (inl same) = ap is_free same ∙ was
array_not_free was (inr (inl alive)) = ap is_free alive
array_not_free was (inr (inr gone)) = ap is_free gone

held_after_call : (layout : Layout) (state : State) (who : ℕ) (op : Op) (reply : Reply) (took : Option ℕ) (block k : ℕ) →
    IsHeldAt layout state block k → IsHeldAt layout (after_call state who op reply took) block k
held_after_call layout state who op reply took block k held = record {
  cells = λ cell within at bit. not_free (held.cells cell within at bit) (all.cells cell);
  arrays = λ array within at bit. array_not_free (held.arrays array within at bit) (all.arrays array);
}
  where
    all : HasCallStatuses state (after_call state who op reply took)
    all = HasCallStatuses-call state who op reply took

-- a status that is dead
is_dead_status : (status : Status) → is_dead status ≡ true → status ≡ dead
is_dead_status free is = absurd (cc)
is_dead_status live is = absurd (cc)
is_dead_status spent is = absurd (cc)
is_dead_status dead is = refl

-- a sweep that doesn't reach a cell or an array leaves it
cell_unswept : (b : Bool) (cell : CellState) → (b ≡ true → ⊥) → is_free cell.status ≡ false →
    is_free (if b then blank_cell free else cell).status ≡ false
cell_unswept true cell unswept held = absurd (unswept refl)
cell_unswept false cell unswept held = held

array_unswept : (b : Bool) (status : Status) → (b ≡ true → ⊥) → is_free status ≡ false →
    is_free (if b then free else status) ≡ false
array_unswept true status unswept held = absurd (unswept refl)
array_unswept false status unswept held = held

-- a sweep that reaches none of the block's dead leaves what isn't free there
held_unswept : (layout : Layout) (state : State) (swept block k : ℕ) →
    ((cell : ℕ) → cell < cell_count layout → block_of_cell cell ≡ block → block_of_cell cell ≡ swept →
    (state.cells cell).status ≡ dead → ⊥) →
    ((array : ℕ) → array < array_count layout → block_of_array layout array ≡ block → block_of_array layout array ≡ swept →
    state.arrays array ≡ dead → ⊥) → IsHeldAt layout state block k →
    IsHeldAt layout (after_sweep layout state swept) block k
held_unswept layout state swept block k no_cell no_array held = record {
  cells = λ cell within at bit. cell_unswept (block_of_cell cell == swept && is_dead (state.cells cell).status)
      (state.cells cell)
      (λ reached. let (here, died) = and_parts (block_of_cell cell == swept) (is_dead (state.cells cell).status) reached in
      no_cell cell within at (eqb-true (block_of_cell cell) swept here) (is_dead_status (state.cells cell).status died))
      (held.cells cell within at bit);
  arrays = λ array within at bit. array_unswept (block_of_array layout array == swept && is_dead (state.arrays array))
      (state.arrays array)
      (λ reached. let (here, died) = and_parts (block_of_array layout array == swept) (is_dead (state.arrays array)) reached in
      no_array array within at (eqb-true (block_of_array layout array) swept here) (is_dead_status (state.arrays array) died))
      (held.arrays array within at bit);
}

-- a sweep leaves nothing dead in its block
clean_swept : (layout : Layout) (state : State) (block : ℕ) → IsCleanBlock layout (after_sweep layout state block) block
clean_swept layout state block (dead_cell cell within at is) =
    gone (block_of_cell cell == block) (eq-eqb (block_of_cell cell) block at) (state.cells cell) is
  where
    gone : (b : Bool) → b ≡ true → (held : CellState) → (swept_cell b held).status ≡ dead → ⊥
    gone false here held died = absurd (cc)
    gone true here held died = by (is_dead held.status) refl died
      where
        by : (d : Bool) → is_dead held.status ≡ d → (if d then blank_cell free else held).status ≡ dead → ⊥
        by true is died = absurd (cc)
        by false is died = absurd (let both = sym is ∙ ap is_dead died in cc)
clean_swept layout state block (dead_array array within at is) =
    gone (block_of_array layout array == block) (eq-eqb (block_of_array layout array) block at) (state.arrays array) is
  where
    gone : (b : Bool) → b ≡ true → (status : Status) → swept_status b status ≡ dead → ⊥
    gone false here status died = absurd (cc)
    gone true here status died = by (is_dead status) refl died
      where
        by : (d : Bool) → is_dead status ≡ d → (if d then free else status) ≡ dead → ⊥
        by true is died = absurd (cc)
        by false is died = absurd (let both = sym is ∙ ap is_dead died in cc)

module _ (layout : Layout) (block k : ℕ) where
  -- an entry of a part leaves what isn't free, unless it sweeps the block
  held_or_clean : (state : State) (entry : Entry) (took : Option ℕ) → is_of_part entry ≡ true → IsHeldAt layout state block k →
      IsHeldAt layout (after_entry layout state entry took) block k
      ⊎ IsCleanBlock layout (after_entry layout state entry took) block
  held_or_clean state (Call who op reply) took is held = inl (held_after_call layout state who op reply took block k held)
  held_or_clean state (Taken taken) took is held = inl held
  held_or_clean state (Sweep swept) took is held = elim (cases_eq swept block) [
    | inl same ↦ inr (subst (λ (b : ℕ). IsCleanBlock layout (after_sweep layout state swept) b) same
        (clean_swept layout state swept))
    | inr apart ↦ inl (held_unswept layout state swept block k (λ cell within at there died. apart (sym there ∙ at))
        (λ array within at there died. apart (sym there ∙ at)) held)
  ]
  held_or_clean state (Begin cycle full) took is held = absurd (cc)
  held_or_clean state (Pause visits) took is held = absurd (cc)
  held_or_clean state (Visits who visits) took is held = absurd (cc)
  held_or_clean state (End cycle freed) took is held = absurd (cc)
  held_or_clean state (Open number run) took is held = absurd (cc)

  ends_none : (entry : Entry) → is_of_part entry ≡ true → is_end entry ≡ false
  ends_none (Call who op reply) is = refl
  ends_none (Taken taken) is = refl
  ends_none (Sweep swept) is = refl
  ends_none (Begin cycle full) is = refl
  ends_none (Pause visits) is = refl
  ends_none (Visits who visits) is = refl
  ends_none (End cycle freed) is = absurd (cc)
  ends_none (Open number run) is = refl

  clean_after : (state : State) (entry : Entry) (took : Option ℕ) → is_of_part entry ≡ true → IsCleanBlock layout state block →
      IsCleanBlock layout (after_entry layout state entry took) block
  clean_after state entry took is clean has = clean (had_dead layout state (after_entry layout state entry took) block
      (HasNoNewDead-entry layout state entry took (ends_none entry is)) has)

  -- where nothing is dead in the block, no sweep reaches what isn't free there
  held_where_clean : (state : State) (entry : Entry) (took : Option ℕ) → is_of_part entry ≡ true →
      IsCleanBlock layout state block → IsHeldAt layout state block k →
      IsHeldAt layout (after_entry layout state entry took) block k
  held_where_clean state (Call who op reply) took is clean held = held_after_call layout state who op reply took block k held
  held_where_clean state (Taken taken) took is clean held = held
  held_where_clean state (Sweep swept) took is clean held = held_unswept layout state swept block k
      (λ cell within at there died. clean (dead_cell cell within at died))
      (λ array within at there died. clean (dead_array array within at died)) held
  held_where_clean state (Begin cycle full) took is clean held = absurd (cc)
  held_where_clean state (Pause visits) took is clean held = absurd (cc)
  held_where_clean state (Visits who visits) took is clean held = absurd (cc)
  held_where_clean state (End cycle freed) took is clean held = absurd (cc)
  held_where_clean state (Open number run) took is clean held = absurd (cc)

  -- so after some entries of a part
  abbrev AreOfPart : List Event → Type 0
  AreOfPart events = (event : Event) → Contains events event → is_of_part event.entry ≡ true

  rest_of_part : (event : Event) (events : List Event) → AreOfPart (event ∷ events) → AreOfPart events
  rest_of_part event events all e (n, below, is) = all e (suc n, omega (arith, below), is)

  first_of_part : (event : Event) (events : List Event) → AreOfPart (event ∷ events) → is_of_part event.entry ≡ true
  first_of_part event events all = all event (0, omega arith, refl)

  clean_from : (state : State) (events : List Event) → AreOfPart events → IsCleanBlock layout state block →
      IsCleanBlock layout (state_from layout state events) block
  clean_from state [] all clean = clean
  clean_from state (event ∷ events) all clean =
      clean_from (after_event layout state event) events (rest_of_part event events all)
      (clean_after state event.entry event.took (first_of_part event events all) clean)

  held_from_clean : (state : State) (events : List Event) → AreOfPart events → IsCleanBlock layout state block →
      IsHeldAt layout state block k → IsHeldAt layout (state_from layout state events) block k
  held_from_clean state [] all clean held = held
  held_from_clean state (event ∷ events) all clean held =
      held_from_clean (after_event layout state event) events (rest_of_part event events all)
      (clean_after state event.entry event.took (first_of_part event events all) clean)
      (held_where_clean state event.entry event.took (first_of_part event events all) clean held)

  held_from : (state : State) (events : List Event) → AreOfPart events → IsHeldAt layout state block k →
      IsHeldAt layout (state_from layout state events) block k ⊎ IsCleanBlock layout (state_from layout state events) block
  held_from state [] all held = inl held
  held_from state (event ∷ events) all held =
      elim (held_or_clean state event.entry event.took (first_of_part event events all) held) [
        | inl still ↦ held_from (after_event layout state event) events (rest_of_part event events all) still
        | inr clean ↦ inr (clean_from (after_event layout state event) events (rest_of_part event events all) clean)
      ]

-- the events of a history between two moments of its last part
module _ (layout : Layout) (log : List Event) (opened : ℕ)
    (part : (event : Event) → Contains (drop opened log) event → is_of_part event.entry ≡ true)
    (from to : ℕ) (in_part : opened ≤ from) (rising : from ≤ to) (there : to ≤ length log) (block k : ℕ) where
  abbrev between : List Event
  between = drop from (take to log)

  parted : state_at layout log to ≡ state_from layout (state_at layout log from) between
  parted = ap (state_after layout) (sym (take-append-drop from (take to log)))
      ∙ state_after-append layout (take from (take to log)) between
      ∙ ap (λ (l : List Event). state_from layout (state_after layout l) between) (take-take from to log rising)

  of_part : AreOfPart layout block k between
  of_part event (n, below, is) =
      let taken = length-take to log in
      let dropped = length-drop from (take to log) in
      let whole = length-drop opened log in
      let inside : from + n < to = omega (arith, below, taken, dropped, there, rising) in
      part event (
        n + (from - opened),
        omega (arith, inside, whole, in_part, there, rising),
        get_or-drop opened log (n + (from - opened)) event
            ∙ ap (λ (i : ℕ). get_or log i event)
            (let same : opened + (n + (from - opened)) ≡ from + n = omega (arith, in_part) in same)
            ∙ sym (get_or-take to log (from + n) event inside) ∙ sym (get_or-drop from (take to log) n event) ∙ is,
      )

  -- what isn't free at the one moment isn't at the other, or nothing is dead in the block then
  pub held_between : IsHeldAt layout (state_at layout log from) block k →
      IsHeldAt layout (state_at layout log to) block k ⊎ IsCleanBlock layout (state_at layout log to) block
  held_between held = subst (λ (s : State). IsHeldAt layout s block k ⊎ IsCleanBlock layout s block) (sym parted)
      (held_from layout block k (state_at layout log from) between of_part held)

  -- nothing is dead at the other moment where nothing is at the one
  pub clean_between : IsCleanBlock layout (state_at layout log from) block → IsCleanBlock layout (state_at layout log to) block
  clean_between clean = subst (λ (s : State). IsCleanBlock layout s block) (sym parted)
      (clean_from layout block k (state_at layout log from) between of_part clean)

  -- and then what isn't free stays so
  pub held_once_clean : IsCleanBlock layout (state_at layout log from) block →
      IsHeldAt layout (state_at layout log from) block k → IsHeldAt layout (state_at layout log to) block k
  held_once_clean clean held = subst (λ (s : State). IsHeldAt layout s block k) (sym parted)
      (held_from_clean layout block k (state_at layout log from) between of_part clean held)
