-- Tests by which histories that were written out are shown to be scheduled: each is computed, and passing it is enough.
use Rattle.std.specs.Prelude.{ℕ, zero, suc, ◌≡◌, ◌<◌, ◌+◌, Bool, true, false, ◌&&◌, ◌||◌, ◌⊎◌, List, [], ◌∷◌, ◌++◌, length, not, nat_lt, nat_le, Option, is_none}
use Rattle.std.proofs.Common.{refl, ap, subst, sym, inl, inr, ◌∙◌, true≢false}
use Rattle.std.proofs.lemmas.Bool.{and_parts, or_parts, leb-true, ltb-true, lt-leb}
use Rattle.tide_model.specs.declared.op.Op.{Op}
use Rattle.tide_model.specs.declared.op.Reply.{Reply}
use Rattle.tide_model.specs.declared.entry.Event.{Event}
use Rattle.tide_model.specs.Cycle.{IsSwept, dead_cell, dead_array, live_count}
use Rattle.tide_model.specs.Each.{Each}
use Rattle.tide_model.specs.History.{is_begin, state_after}
use Rattle.tide_model.specs.Layout.{Layout, cell_count, array_count}
use Rattle.tide_model.specs.Numbers.{any_below}
use Rattle.tide_model.specs.Pace.{Pace}
use Rattle.tide_model.specs.Old.{spared_count}
use Rattle.tide_model.specs.Periods.{Period, EndsInTime, after_part, next_run}
use Rattle.tide_model.specs.Script.{calls_of, retry_of, retry_after_all}
use Rattle.tide_model.specs.Share.{HasCallLeft, IsShare, has_ended}
use Rattle.tide_model.specs.Since.{born_since, visits_since, is_end}
use Rattle.tide_model.specs.State.{State, is_dead}
use Rattle.tide_model.proofs.NumberLaws.{any_below-false}
use Rattle.tide_model.proofs.PeriodLaws.{EndsInTime-other}

-- what a negated test says
not_true : (b : Bool) → not b ≡ true → b ≡ false
not_true true e = absurd (cc)
not_true false e = refl

-- each element passes a test, by those before it
abbrev pub all_pass : {X : Type 0} → (List X → X → Bool) → List X → Bool
all_pass test [] = true
all_pass test (x ∷ xs) = test [] x && all_pass (λ before y. test (x ∷ before) y) xs

-- where a passed test is enough to stand, a list that was written out is shown to stand by computing its tests
pub Each-tested : {X : Type 0} (stands : List X → X → Type 0) (test : List X → X → Bool) →
    ((before : List X) (x : X) → test before x ≡ true → stands before x) → (xs : List X) → all_pass test xs ≡ true →
    Each stands xs
Each-tested {X} stands test enough [] passed zero y is = absurd (cc)
Each-tested {X} stands test enough [] passed (suc place) y is = absurd (cc)
Each-tested {X} stands test enough (x ∷ xs) passed zero y is =
    let first = (and_parts (test [] x) (all_pass (λ before z. test (x ∷ before) z) xs) passed).0 in
    let same : x ≡ y = cc in
    subst (stands []) same (enough [] x first)
Each-tested {X} stands test enough (x ∷ xs) passed (suc place) y is =
    let others = (and_parts (test [] x) (all_pass (λ before z. test (x ∷ before) z) xs) passed).1 in
    Each-tested (λ before z. stands (x ∷ before) z) (λ before z. test (x ∷ before) z)
    (λ before z passes. enough (x ∷ before) z passes) xs others place y is

-- whether a call may follow others, where no operation is to be tried again at it
abbrev pub may_call : ℕ → Option Op → List (Op × Reply) → Op × Reply → Bool
may_call run retry before call =
    nat_lt (length before) run && (not (has_ended retry before) && is_none (retry_after_all retry before))

HasCallLeft-tested : (run : ℕ) (retry : Option Op) (before : List (Op × Reply)) (call : Op × Reply) →
    may_call run retry before call ≡ true → HasCallLeft run retry before call
HasCallLeft-tested run retry before call passes =
    let (few, rest) = and_parts (nat_lt (length before) run) (not (has_ended retry before) && is_none again) passes in
    let (may, none) = and_parts (not (has_ended retry before)) (is_none again) rest in
    record {
      left = ltb-true (length before) run few;
      goes_on = not_true (has_ended retry before) may;
      retries = λ op is. absurd (true≢false (sym none ∙ ap is_none is));
    }
  where
    again : Option Op
    again = retry_after_all retry before

-- whether calls are a mutator's share, where no operation is to be tried again
abbrev pub is_share : ℕ → Option Op → Bool → List (Op × Reply) → Bool
is_share run retry is_active calls =
    all_pass (may_call run retry) calls && (nat_le run (length calls) || (not is_active || has_ended retry calls))

pub IsShare-tested : (run : ℕ) (retry : Option Op) (is_active : Bool) (calls : List (Op × Reply)) →
    is_share run retry is_active calls ≡ true → IsShare run retry is_active calls
IsShare-tested run retry is_active calls passes =
    let (each, fewer) = and_parts (all_pass (may_call run retry) calls)
    (nat_le run (length calls) || (not is_active || has_ended retry calls)) passes in
    record {
      each = Each-tested (HasCallLeft run retry) (may_call run retry) (HasCallLeft-tested run retry) calls each;
      fewer = λ few.
          stops (nat_le run (length calls)) is_active (has_ended retry calls) (lt-leb run (length calls) few) fewer;
    }
  where
    stops : (all active ended : Bool) → all ≡ false → (all || (not active || ended)) ≡ true →
        (active ≡ false) ⊎ (ended ≡ true)
    stops true active ended few passed = absurd (cc)
    stops false false ended few passed = inl refl
    stops false true ended few passed = inr passed

-- whether a mutator's calls in a period are its share
abbrev pub has_share : Pace → Layout → List Event → Period → ℕ → Bool
has_share pace layout before period who =
    is_share (next_run pace layout before) (retry_of who before)
    ((state_after layout (after_part pace layout before period)).active who) (calls_of who period.part)

pub shares-tested : (pace : Pace) (layout : Layout) (before : List Event) (period : Period) →
    any_below (λ who. not (has_share pace layout before period who)) layout.mutators ≡ false →
    (who : ℕ) → who < layout.mutators → IsShare (next_run pace layout before) (retry_of who before)
    ((state_after layout (after_part pace layout before period)).active who) (calls_of who period.part)
shares-tested pace layout before period none who below =
    IsShare-tested (next_run pace layout before) (retry_of who before)
    ((state_after layout (after_part pace layout before period)).active who) (calls_of who period.part)
    (not_false (has_share pace layout before period who)
    (any_below-false (λ m. not (has_share pace layout before period m)) layout.mutators who none below))
  where
    not_false : (b : Bool) → not b ≡ false → b ≡ true
    not_false true e = refl
    not_false false e = absurd (cc)

-- some cell or array of the layout is dead
abbrev pub is_any_dead : Layout → State → Bool
is_any_dead layout state =
    any_below (λ cell. is_dead (state.cells cell).status) (cell_count layout)
    || any_below (λ array. is_dead (state.arrays array)) (array_count layout)

pub IsSwept-tested : (layout : Layout) (history : List Event) →
    is_any_dead layout (state_after layout history) ≡ false → IsSwept layout history
IsSwept-tested layout history none block (dead_cell cell within at is) =
    let state = state_after layout history in
    let cells = (or_parts (any_below (λ c. is_dead (state.cells c).status) (cell_count layout))
    (any_below (λ a. is_dead (state.arrays a)) (array_count layout)) none).0 in
    let isnt = any_below-false (λ c. is_dead (state.cells c).status) (cell_count layout) cell cells within in
    absurd (true≢false (sym (ap is_dead is) ∙ isnt))
IsSwept-tested layout history none block (dead_array array within at is) =
    let state = state_after layout history in
    let arrays = (or_parts (any_below (λ c. is_dead (state.cells c).status) (cell_count layout))
    (any_below (λ a. is_dead (state.arrays a)) (array_count layout)) none).1 in
    let isnt = any_below-false (λ a. is_dead (state.arrays a)) (array_count layout) array arrays within in
    absurd (true≢false (sym (ap is_dead is) ∙ isnt))

-- how many cells live after the event
abbrev pub live_after : Layout → List Event → Event → ℕ
live_after layout before event = live_count layout (state_after layout (before ++ event ∷ []))

-- whether an event that may end a cycle does so in time
abbrev pub ends_in_time : Layout → List Event → Event → Bool
ends_in_time layout before event = not (is_end event.entry)
    || nat_le (live_after layout before event) (visits_since is_begin before + born_since is_begin before + spared_count layout before)

pub EndsInTime-tested : (layout : Layout) (before : List Event) (event : Event) →
    ends_in_time layout before event ≡ true → EndsInTime layout before event
EndsInTime-tested layout before event passes = by_kind (not (is_end event.entry)) refl passes
  where
    kept : ℕ
    kept = live_after layout before event

    most : ℕ
    most = visits_since is_begin before + born_since is_begin before + spared_count layout before

    by_kind : (other : Bool) → not (is_end event.entry) ≡ other →
        (other || nat_le kept most) ≡ true → EndsInTime layout before event
    by_kind true is passed = EndsInTime-other layout before event is
    by_kind false is passed = record { kept = λ cycle freed end. leb-true kept most passed }
