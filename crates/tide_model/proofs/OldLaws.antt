-- Old cells stay old, a cycle full or not, and the last full one the same, until a cycle begins or ends; what is old is
-- live; and the last full cycle is one that began.
use Rattle.std.proofs.Common.{ℕ, suc, ◌≡◌, ◌+◌, ◌≤◌, refl, sym, ◌∙◌, ap, subst, Bool, true, false, true≢false, List, [], ◌∷◌, ◌++◌, length, take, length-append, arith, inl, inr}
use Rattle.std.proofs.lemmas.Bool.{cases_Bool}
use Rattle.std.specs.Prelude.{◌==◌, if◌then◌else◌, ◌&&◌, not, Option}
use Rattle.tide_model.specs.declared.entry.Entry.{Entry}
use Rattle.tide_model.specs.declared.entry.Entry.TheVariants.{Call, Begin, Pause, Visits, End, Taken, Sweep, Open}
use Rattle.tide_model.specs.declared.entry.Event.{Event}
use Rattle.tide_model.specs.Cycle.{begin_count, cycle_span}
use Rattle.tide_model.specs.Freeze.{is_marking_phase, marks_after}
use Rattle.tide_model.specs.Graph.{IsRetained, is_further, retained_more}
use Rattle.tide_model.specs.History.{after_entry, is_begin, moment_after_last, plain, state_after, state_at}
use Rattle.tide_model.specs.Lawful.{IsLawful, Stands, StandsEntry}
use Rattle.tide_model.specs.Layout.{Layout, block_of_cell}
use Rattle.tide_model.specs.Old.{IsOld, IsSpared, full_after, full_with, is_full, is_old, is_spared, last_full, last_full_after, last_full_with, rested_state}
use Rattle.tide_model.specs.References.{IsLive}
use Rattle.tide_model.specs.Refused.{ShapeLists}
use Rattle.tide_model.specs.Since.{is_end}
use Rattle.tide_model.specs.State.{State, CellState, Status, free, is_live, live, spent, dead}
use Rattle.tide_model.proofs.CallKeeps.{KeepsLive, KeepsLive-call}
use Rattle.tide_model.proofs.Cycles.{take-all}
use Rattle.tide_model.proofs.Histories.{IsLawful-elim, moment_after_last-le, moment_after_last-push, state_after-push, take-append-short}
use Rattle.tide_model.proofs.PhaseLaws.{phase_after-call}
use Rattle.tide_model.proofs.ReferencesInCycles.{swept_cell-live}
use Rattle.tide_model.proofs.SinceLaws.{count-push}
use Rattle.tide_model.proofs.Spans.{cycle_span-push}

full_with-same : (full : Bool) (entry : Entry) → is_begin entry ≡ false → full_with full entry ≡ full
full_with-same full (Call who op reply) none = refl
full_with-same full (Begin cycle own) none = absurd (cc)
full_with-same full (Pause visits) none = refl
full_with-same full (Visits who visits) none = refl
full_with-same full (End cycle freed) none = refl
full_with-same full (Taken block) none = refl
full_with-same full (Sweep block) none = refl
full_with-same full (Open number run) none = refl

pub full_after-push : (full : Bool) (log : List Event) (event : Event) →
    full_after full (log ++ event ∷ []) ≡ full_with (full_after full log) event.entry
full_after-push full [] event = refl
full_after-push full (first ∷ log) event = full_after-push (full_with full first.entry) log event

-- the last cycle stays a full one, or none, where none begins
pub is_full-kept : (log : List Event) (event : Event) → is_begin event.entry ≡ false → is_full (log ++ event ∷ []) ≡ is_full log
is_full-kept log event begins_none = full_after-push false log event ∙ full_with-same (is_full log) event.entry begins_none

last_full_with-same : (last : ℕ) (entry : Entry) → is_begin entry ≡ false → last_full_with last entry ≡ last
last_full_with-same last (Call who op reply) none = refl
last_full_with-same last (Begin cycle own) none = absurd (cc)
last_full_with-same last (Pause visits) none = refl
last_full_with-same last (Visits who visits) none = refl
last_full_with-same last (End cycle freed) none = refl
last_full_with-same last (Taken block) none = refl
last_full_with-same last (Sweep block) none = refl
last_full_with-same last (Open number run) none = refl

last_full_after-push : (last : ℕ) (log : List Event) (event : Event) →
    last_full_after last (log ++ event ∷ []) ≡ last_full_with (last_full_after last log) event.entry
last_full_after-push last [] event = refl
last_full_after-push last (first ∷ log) event = last_full_after-push (last_full_with last first.entry) log event

-- the last full cycle stays the same where none begins
pub last_full-kept : (log : List Event) (event : Event) → is_begin event.entry ≡ false →
    last_full (log ++ event ∷ []) ≡ last_full log
last_full-kept log event begins_none =
    last_full_after-push 1 log event ∙ last_full_with-same (last_full log) event.entry begins_none

-- a full cycle that begins is the last full one, and an Eden cycle leaves what was
pub last_full-begun : (log : List Event) (cycle : ℕ) (full : Bool) →
    last_full (log ++ plain (Begin cycle full) ∷ []) ≡ (if full then cycle else last_full log)
last_full-begun log cycle full = last_full_after-push 1 log (plain (Begin cycle full))

module _ (layout : Layout) (log : List Event) (event : Event) (ends_none : is_end event.entry ≡ false) where
  abbrev rest : List Event → ℕ
  rest history = moment_after_last (λ e. is_end e.entry) history

  same_moment : rest (log ++ event ∷ []) ≡ rest log
  same_moment = moment_after_last-push (λ e. is_end e.entry) log event
      ∙ ap (λ (b : Bool). if b then suc (length log) else rest log) ends_none

  -- the same cells are old where no cycle ends
  pub rested_state-push : rested_state layout (log ++ event ∷ []) ≡ rested_state layout log
  rested_state-push = ap (state_at layout (log ++ event ∷ [])) same_moment
      ∙ ap (state_after layout) (take-append-short log (event ∷ []) (rest log) (moment_after_last-le (λ e. is_end e.entry) log))

  pub is_old-push : (cell : ℕ) → is_old layout (log ++ event ∷ []) cell ≡ is_old layout log cell
  is_old-push cell = ap (λ (s : State). is_live (s.cells cell).status) rested_state-push

module _ (layout : Layout) (log : List Event) (event : Event) (begins_none : is_begin event.entry ≡ false)
    (ends_none : is_end event.entry ≡ false) where
  pub is_full-push : is_full (log ++ event ∷ []) ≡ is_full log
  is_full-push = is_full-kept log event begins_none

  -- the same cells are spared where none begins either
  pub is_spared-push : (cell : ℕ) → is_spared layout (log ++ event ∷ []) cell ≡ is_spared layout log cell
  is_spared-push cell =
      ap (λ (b : Bool). not b && is_old layout (log ++ event ∷ []) cell) is_full-push
      ∙ ap (λ (b : Bool). not (is_full log) && b) (is_old-push layout log event ends_none cell)

  -- what the cycle retained, with the cells that it spares, it still retains
  pub spared_retained-push : (cell : ℕ) → IsRetained (cycle_span layout log) (IsSpared layout log) cell →
      IsRetained (cycle_span layout (log ++ event ∷ [])) (IsSpared layout (log ++ event ∷ [])) cell
  spared_retained-push = retained_more (cycle_span layout log) (cycle_span layout (log ++ event ∷ []))
      (IsSpared layout log) (IsSpared layout (log ++ event ∷ [])) (cycle_span-push layout log event begins_none)
      (λ cell spared. is_further cell (is_spared-push cell ∙ spared))

-- right after an end the old cells are those that live then
pub is_old-ended : (layout : Layout) (log : List Event) (event : Event) → is_end event.entry ≡ true → (cell : ℕ) →
    is_old layout (log ++ event ∷ []) cell ≡ is_live ((state_after layout (log ++ event ∷ [])).cells cell).status
is_old-ended layout log event ends cell = ap (λ (h : List Event). is_live ((state_after layout h).cells cell).status) now
  where
    longer : length (log ++ event ∷ []) ≡ suc (length log)
    longer = (let l = length-append log (event ∷ []) in omega (arith, l))

    at : moment_after_last (λ e. is_end e.entry) (log ++ event ∷ []) ≡ length (log ++ event ∷ [])
    at = moment_after_last-push (λ e. is_end e.entry) log event
        ∙ ap (λ (b : Bool). if b then suc (length log) else moment_after_last (λ e. is_end e.entry) log) ends
        ∙ sym longer

    now : take (moment_after_last (λ e. is_end e.entry) (log ++ event ∷ [])) (log ++ event ∷ []) ≡ log ++ event ∷ []
    now = ap (λ (n : ℕ). take n (log ++ event ∷ [])) at ∙ take-all (log ++ event ∷ [])

-- each entry but an end leaves each live cell live
KeepsLive-entry : (layout : Layout) (state : State) (entry : Entry) (took : Option ℕ) → is_end entry ≡ false →
    KeepsLive state (after_entry layout state entry took)
KeepsLive-entry layout state (Call who op reply) took none = KeepsLive-call state who op reply took
KeepsLive-entry layout state (Begin cycle full) took none = λ c is. is
KeepsLive-entry layout state (Pause visits) took none = λ c is. is
KeepsLive-entry layout state (Visits who visits) took none = λ c is. is
KeepsLive-entry layout state (End cycle freed) took none = absurd (cc)
KeepsLive-entry layout state (Taken block) took none = λ c is. is
KeepsLive-entry layout state (Sweep block) took none = λ c is.
    ap (λ (held : CellState). held.status) (swept_cell-live (block_of_cell c == block) (state.cells c) is) ∙ is
KeepsLive-entry layout state (Open number run) took none = λ c is. is

live_from : (status : Status) → is_live status ≡ true → status ≡ live
live_from free e = absurd (true≢false (sym e))
live_from live e = refl
live_from spent e = absurd (true≢false (sym e))
live_from dead e = absurd (true≢false (sym e))

-- so each old cell is live
pub old_stays_live : (layout : Layout) (shapes : ShapeLists) (history : List Event) → IsLawful layout shapes history →
    (cell : ℕ) → IsOld layout history cell → IsLive (state_after layout history) cell
old_stays_live layout shapes =
    IsLawful-elim layout shapes (λ before. (cell : ℕ) → IsOld layout before cell → IsLive (state_after layout before) cell)
    (λ cell old. absurd (true≢false (sym old))) push
  where
    push : (before : List Event) (event : Event) → ((cell : ℕ) → IsOld layout before cell → IsLive (state_after layout before) cell) →
        Stands layout shapes before event → (cell : ℕ) → IsOld layout (before ++ event ∷ []) cell → IsLive (state_after layout (before ++ event ∷ [])) cell
    push before event earlier stands cell old = elim (cases_Bool (is_end event.entry)) [
      | inl ends ↦ live_from ((state_after layout (before ++ event ∷ [])).cells cell).status (sym (is_old-ended layout before event ends cell) ∙ old)
      | inr none ↦ subst (λ (s : State). IsLive s cell) (sym (state_after-push layout before event))
          (KeepsLive-entry layout (state_after layout before) event.entry event.took none cell
          (earlier cell (sym (is_old-push layout before event none cell) ∙ old)))
    ]

-- the last full cycle is no later than the next cycle, and while one marks, no later than that
pub record LastFullHasBegun (layout : Layout) (history : List Event) : Type 0 where
  pub soon : last_full history ≤ begin_count history + 1
  pub begun : marks_after layout history ≡ true → last_full history ≤ begin_count history

-- so it is in each lawful history, since cycles have their numbers in the order in which they begin
pub last_full_has_begun : (layout : Layout) (shapes : ShapeLists) (history : List Event) →
    IsLawful layout shapes history → LastFullHasBegun layout history
last_full_has_begun layout shapes =
    IsLawful-elim layout shapes (LastFullHasBegun layout)
    (record { soon = omega arith; begun = λ marks. absurd (true≢false (sym marks)) }) push
  where
    push : (before : List Event) (event : Event) → LastFullHasBegun layout before → Stands layout shapes before event →
        LastFullHasBegun layout (before ++ event ∷ [])
    push before event earlier stands = record {
      soon = (let one = (step event.entry event.took stands).0 in omega (arith, one, last, count));
      begun = λ marks.
          let one = (step event.entry event.took stands).1 (sym phase ∙ marks) in
          omega (arith, one, last, count);
    }
      where
        last : last_full (before ++ event ∷ []) ≡ last_full_with (last_full before) event.entry
        last = last_full_after-push 1 before event

        count : begin_count (before ++ event ∷ []) ≡ begin_count before + (if is_begin event.entry then 1 else 0)
        count = count-push (λ e. is_begin e.entry) before event

        now : State
        now = state_after layout before

        phase : marks_after layout (before ++ event ∷ [])
            ≡ is_marking_phase (after_entry layout now event.entry event.took).phase
        phase = ap (λ (s : State). is_marking_phase s.phase) (state_after-push layout before event)

        begun : marks_after layout before ≡ true → last_full before ≤ begin_count before + 0
        begun marks = (let one = earlier.begun marks in omega (arith, one))

        soon : last_full before ≤ begin_count before + 0 + 1
        soon = (let one = earlier.soon in omega (arith, one))

        step : (entry : Entry) (took : Option ℕ) → StandsEntry layout shapes before entry took →
            (last_full_with (last_full before) entry ≤ begin_count before + (if is_begin entry then 1 else 0) + 1)
            × (is_marking_phase (after_entry layout now entry took).phase ≡ true →
            last_full_with (last_full before) entry ≤ begin_count before + (if is_begin entry then 1 else 0))
        step (Call who op reply) took _ = (
          soon,
          λ marks. begun (ap is_marking_phase (sym (phase_after-call now who op reply took)) ∙ marks),
        )
        step (Begin cycle true) took stands_begin =
            let next = stands_begin.1.is_next in
            (omega (arith, next), λ marks. omega (arith, next))
        step (Begin cycle false) took stands_begin =
            let one = earlier.soon in
            (omega (arith, one), λ marks. omega (arith, one))
        step (Pause visits) took _ = (soon, begun)
        step (Visits who visits) took _ = (soon, begun)
        step (End cycle freed) took _ = (soon, λ marks. absurd (true≢false (sym marks)))
        step (Taken block) took _ = (soon, begun)
        step (Sweep block) took _ = (soon, begun)
        step (Open number run) took _ = (soon, begun)
