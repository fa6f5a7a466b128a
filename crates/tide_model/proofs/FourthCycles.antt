-- Each fourth cycle of a scheduled history is a full one; and the end of an Eden cycle frees no old cell.
use Rattle.std.specs.Prelude.{ℕ, ◌≡◌, ◌+◌, ◌%◌, ◌==◌, Bool, true, false, ◌&&◌, ◌||◌, List, [], ◌∷◌, ◌++◌, filter, not, take, Option, None, Some}
use Rattle.std.specs.List.{list_all}
use Rattle.std.proofs.Common.{refl, ap, subst, sym, ◌∙◌}
use Rattle.std.proofs.lemmas.Bool.{and_from, and_parts, eq-eqb}
use Rattle.std.proofs.lemmas.List.{map-append}
use Rattle.std.proofs.lemmas.List.Folds.{list_all-map}
use Rattle.std.proofs.lemmas.List.Sums.{list_all-from_AllPass}
use Rattle.tide_model.specs.declared.entry.Entry.{Entry}
use Rattle.tide_model.specs.declared.entry.Entry.TheVariants.{Call, Begin, Pause, Visits, End, Taken, Sweep, Open}
use Rattle.tide_model.specs.declared.entry.Event.{Event}
use Rattle.tide_model.specs.Cycle.{StandsEnd, begin_count}
use Rattle.tide_model.specs.Each.{Each}
use Rattle.tide_model.specs.Freeze.{IsFreeze, Paused, end_entries, is_due, marks_after, pause_entries, visits_entries}
use Rattle.tide_model.specs.Laws.{FourthBeginsFull, FreesNoSpared}
use Rattle.tide_model.specs.Lawful.{IsLawful, StandsEntry}
use Rattle.tide_model.specs.Layout.{Layout}
use Rattle.tide_model.specs.Pace.{Pace}
use Rattle.tide_model.specs.Periods.{ArePeriods, no_period, one_more, IsScheduled, after_part, is_forced, next_run, opened}
use Rattle.tide_model.specs.Refused.{ShapeLists}
use Rattle.tide_model.specs.Since.{is_of_part, is_sweep}
use Rattle.tide_model.proofs.PeriodLaws.{Each-all}
use Rattle.tide_model.proofs.QuietEnds.{entries_of}

-- the entry begins no cycle whose number is a multiple of four but a full one
abbrev is_full_if_fourth : Entry → Bool
is_full_if_fourth (Call who op reply) = true
is_full_if_fourth (Begin cycle full) = full || not (cycle % 4 == 0)
is_full_if_fourth (Pause visits) = true
is_full_if_fourth (Visits who visits) = true
is_full_if_fourth (End cycle freed) = true
is_full_if_fourth (Taken block) = true
is_full_if_fourth (Sweep block) = true
is_full_if_fourth (Open number run) = true

-- none of the entries does anything else
abbrev fourths_are_full : List Entry → Bool
fourths_are_full entries = list_all is_full_if_fourth entries

fourths_are_full-append : (xs ys : List Entry) → fourths_are_full xs ≡ true → fourths_are_full ys ≡ true →
    fourths_are_full (xs ++ ys) ≡ true
fourths_are_full-append [] ys early late = late
fourths_are_full-append (x ∷ xs) ys early late =
    let (first, rest) = and_parts (is_full_if_fourth x) (fourths_are_full xs) early in
    and_from (is_full_if_fourth x) (fourths_are_full (xs ++ ys)) first (fourths_are_full-append xs ys rest late)

fourths_are_full-early : (xs ys : List Entry) → fourths_are_full (xs ++ ys) ≡ true → fourths_are_full xs ≡ true
fourths_are_full-early [] ys all = refl
fourths_are_full-early (x ∷ xs) ys all =
    let (first, rest) = and_parts (is_full_if_fourth x) (fourths_are_full (xs ++ ys)) all in
    and_from (is_full_if_fourth x) (fourths_are_full xs) first (fourths_are_full-early xs ys rest)

-- sweeps don't matter to it
fourths_are_full-marks : (entries : List Entry) →
    fourths_are_full entries ≡ fourths_are_full (filter (λ entry. not (is_sweep entry)) entries)
fourths_are_full-marks [] = refl
fourths_are_full-marks (Call who op reply ∷ entries) = fourths_are_full-marks entries
fourths_are_full-marks (Begin cycle full ∷ entries) = ap (λ b. is_full_if_fourth (Begin cycle full) && b) (fourths_are_full-marks entries)
fourths_are_full-marks (Pause visits ∷ entries) = fourths_are_full-marks entries
fourths_are_full-marks (Visits who visits ∷ entries) = fourths_are_full-marks entries
fourths_are_full-marks (End cycle freed ∷ entries) = fourths_are_full-marks entries
fourths_are_full-marks (Taken block ∷ entries) = fourths_are_full-marks entries
fourths_are_full-marks (Sweep block ∷ entries) = fourths_are_full-marks entries
fourths_are_full-marks (Open number run ∷ entries) = fourths_are_full-marks entries

-- no entry of a part begins a cycle
fourths_are_full-part : (entries : List Entry) → list_all is_of_part entries ≡ true → fourths_are_full entries ≡ true
fourths_are_full-part [] part = refl
fourths_are_full-part (Call who op reply ∷ entries) part = fourths_are_full-part entries part
fourths_are_full-part (Begin cycle full ∷ entries) part = absurd (cc)
fourths_are_full-part (Pause visits ∷ entries) part = absurd (cc)
fourths_are_full-part (Visits who visits ∷ entries) part = absurd (cc)
fourths_are_full-part (End cycle freed ∷ entries) part = absurd (cc)
fourths_are_full-part (Taken block ∷ entries) part = fourths_are_full-part entries part
fourths_are_full-part (Sweep block ∷ entries) part = fourths_are_full-part entries part
fourths_are_full-part (Open number run ∷ entries) part = absurd (cc)

-- nor does what visitors tell, nor a pause and the end after it
fourths_are_full-visits : (who : ℕ) (visits : List ℕ) → fourths_are_full (visits_entries who visits) ≡ true
fourths_are_full-visits who [] = refl
fourths_are_full-visits who (visits ∷ others) = fourths_are_full-visits (who + 1) others

fourths_are_full-pause : (cycle : ℕ) (paused : Paused) → fourths_are_full (pause_entries cycle paused) ≡ true
fourths_are_full-pause cycle paused = by_freed paused.freed
  where
    by_freed : (freed : Option (List ℕ)) → fourths_are_full (end_entries cycle freed) ≡ true
    by_freed None = refl
    by_freed (Some freed) = refl

-- and a freeze begins such a cycle as a full one
fourths_are_full-freeze : (pace : Pace) (layout : Layout) (here : List Event) (run : ℕ) (must : Bool)
    (marks : List Entry) → IsFreeze pace layout here run must marks → fourths_are_full marks ≡ true
fourths_are_full-freeze pace layout here run must marks freeze =
    ap fourths_are_full freeze.are
    ∙ fourths_are_full-append freeze.old freeze.new
    (of_old (marks_after layout here) refl) (of_new (must || is_due pace layout here) refl)
  where
    of_old : (goes_on : Bool) → marks_after layout here ≡ goes_on → fourths_are_full freeze.old ≡ true
    of_old true is =
        let goes_on = freeze.goes_on is in
        ap fourths_are_full goes_on.are
        ∙ fourths_are_full-append (visits_entries 0 goes_on.visits) (pause_entries _ goes_on.paused)
        (fourths_are_full-visits 0 goes_on.visits) (fourths_are_full-pause _ goes_on.paused)
    of_old false is = ap fourths_are_full (freeze.rests is)

    either : (a b : Bool) → ((a || b) || not b) ≡ true
    either true b = refl
    either false true = refl
    either false false = refl

    of_new : (begins : Bool) → (must || is_due pace layout here) ≡ begins → fourths_are_full freeze.new ≡ true
    of_new true is =
        let begins = freeze.begins is in
        ap fourths_are_full begins.are
        ∙ ap (λ b. b && fourths_are_full (pause_entries (begin_count here + 1) begins.paused))
        (either must ((begin_count here + 1) % 4 == 0))
        ∙ fourths_are_full-pause _ begins.paused
    of_new false is = ap fourths_are_full (freeze.stays is)

-- so it is in each period
fourths_are_full-events : (xs ys : List Event) → fourths_are_full (entries_of xs) ≡ true → fourths_are_full (entries_of ys) ≡ true →
    fourths_are_full (entries_of (xs ++ ys)) ≡ true
fourths_are_full-events xs ys early late =
    ap fourths_are_full (map-append (λ e. e.entry) xs ys)
    ∙ fourths_are_full-append (entries_of xs) (entries_of ys) early late

fourths_are_full-periods : (pace : Pace) (layout : Layout) (history : List Event) → ArePeriods pace layout history →
    fourths_are_full (entries_of history) ≡ true
fourths_are_full-periods pace layout _ no_period = refl
fourths_are_full-periods pace layout _ (one_more before period periods stands) =
    fourths_are_full-events (after_part pace layout before period) period.freeze
    (fourths_are_full-events (opened pace layout before) period.part
    (fourths_are_full-events before _ (fourths_are_full-periods pace layout before periods) refl) part) freeze
  where
    part : fourths_are_full (entries_of period.part) ≡ true
    part = fourths_are_full-part (entries_of period.part)
        (list_all-map is_of_part (λ e. e.entry) period.part
        ∙ list_all-from_AllPass (λ e. is_of_part e.entry) period.part stands.entries)

    freeze : fourths_are_full (entries_of period.freeze) ≡ true
    freeze =
        fourths_are_full-marks (entries_of period.freeze)
        ∙ fourths_are_full-freeze pace layout (after_part pace layout before period) (next_run pace layout before)
        (is_forced layout (opened pace layout before) period.part) _ stands.freeze

pub fourth_cycles_are_full : (pace : Pace) (layout : Layout) (history : List Event) → IsScheduled pace layout history →
    Each FourthBeginsFull history
fourth_cycles_are_full pace layout history scheduled =
    Each-all FourthBeginsFull (λ e. is_full_if_fourth e.entry)
    (λ before e passes cycle full is fourth. full_there full (cycle % 4 == 0) (eq-eqb (cycle % 4) 0 fourth)
    (sym (ap is_full_if_fourth is) ∙ passes)) history
    (sym (list_all-map is_full_if_fourth (λ e. e.entry) history)
    ∙ fourths_are_full-periods pace layout history scheduled.periods)
  where
    full_there : (full four : Bool) → four ≡ true → (full || not four) ≡ true → full ≡ true
    full_there true four is passes = refl
    full_there false true is passes = passes
    full_there false false is passes = is

-- what the end of an Eden cycle keeps has the old cells among it
pub eden_ends_keep_old : (layout : Layout) (shapes : ShapeLists) (history : List Event) →
    IsLawful layout shapes history → Each (FreesNoSpared layout) history
eden_ends_keep_old layout shapes history lawful place event is cycle freed end cell spared among =
    (stands.closed.further_cells cell spared).not_freed among
  where
    before : List Event
    before = take place history

    stands : StandsEnd layout before cycle freed
    stands = (subst (λ (entry : Entry). StandsEntry layout shapes before entry event.took) end (lawful place event is)).1
