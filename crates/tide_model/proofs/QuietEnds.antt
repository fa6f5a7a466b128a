-- Where no trigger begins a cycle, nothing but marking and sweeping comes between a cycle's beginning and its end.
use Rattle.std.specs.Prelude.{ℕ, zero, suc, ◌≡◌, ◌+◌, ◌%◌, ◌==◌, Bool, true, false, ◌&&◌, ◌||◌, ◌⊎◌, List, [], ◌∷◌, ◌++◌, filter, map, not, take, is_some, Option, None, Some}
use Rattle.std.specs.List.{list_all}
use Rattle.std.proofs.Common.{refl, ap, inl, inr, subst, sym, ◌∙◌, true≢false}
use Rattle.std.proofs.lemmas.Bool.{and_parts}
use Rattle.std.proofs.lemmas.List.{map-append}
use Rattle.std.proofs.lemmas.List.Folds.{list_all-map}
use Rattle.std.proofs.lemmas.List.Sums.{list_all-from_AllPass}
use Rattle.tide_model.specs.declared.entry.Entry.{Entry}
use Rattle.tide_model.specs.declared.entry.Entry.TheVariants.{Call, Begin, Pause, Visits, End, Taken, Sweep, Open}
use Rattle.tide_model.specs.declared.entry.Event.{Event}
use Rattle.tide_model.specs.Cycle.{begin_count}
use Rattle.tide_model.specs.Each.{Each}
use Rattle.tide_model.specs.Freeze.{IsFreeze, Paused, begins_full, end_entries, is_due, is_marking_phase, marks_after, marks_of}
use Rattle.tide_model.specs.History.{plain, is_open, state_after}
use Rattle.tide_model.specs.Layout.{Layout}
use Rattle.tide_model.specs.Pace.{Pace, is_triggered}
use Rattle.tide_model.specs.Periods.{Period, StandsPeriod, ArePeriods, no_period, one_more, after_part, after_period, is_forced, next_run, open_count, opened}
use Rattle.tide_model.specs.Since.{born_since, is_end, is_of_part, is_sweep}
use Rattle.tide_model.specs.State.{State}
use Rattle.tide_model.proofs.Histories.{state_after-append, state_after-push}
use Rattle.tide_model.proofs.PeriodLaws.{Each-all, Each-append, Each-nil}
use Rattle.tide_model.proofs.PhaseLaws.{marking_after, marking_after-part, marking_after-marks, phase_after-events}

-- the entries of some events
abbrev pub entries_of : List Event → List Entry
entries_of events = map (λ event. event.entry) events

-- whether nothing but marking and sweeping came since a full cycle began, from whether that was so before these entries
abbrev pub quiet_after : Bool → List Entry → Bool
quiet_after quiet [] = quiet
quiet_after quiet (Begin cycle full ∷ entries) = quiet_after full entries
quiet_after quiet (Pause visits ∷ entries) = quiet_after quiet entries
quiet_after quiet (Visits who visits ∷ entries) = quiet_after quiet entries
quiet_after quiet (Taken block ∷ entries) = quiet_after quiet entries
quiet_after quiet (Sweep block ∷ entries) = quiet_after quiet entries
quiet_after quiet (Call who op reply ∷ entries) = quiet_after false entries
quiet_after quiet (End cycle freed ∷ entries) = quiet_after false entries
quiet_after quiet (Open number run ∷ entries) = quiet_after false entries

pub quiet_after-append : (quiet : Bool) (xs ys : List Entry) →
    quiet_after quiet (xs ++ ys) ≡ quiet_after (quiet_after quiet xs) ys
quiet_after-append quiet [] ys = refl
quiet_after-append quiet (Begin cycle full ∷ xs) ys = quiet_after-append full xs ys
quiet_after-append quiet (Pause visits ∷ xs) ys = quiet_after-append quiet xs ys
quiet_after-append quiet (Visits who visits ∷ xs) ys = quiet_after-append quiet xs ys
quiet_after-append quiet (Taken block ∷ xs) ys = quiet_after-append quiet xs ys
quiet_after-append quiet (Sweep block ∷ xs) ys = quiet_after-append quiet xs ys
quiet_after-append quiet (Call who op reply ∷ xs) ys = quiet_after-append false xs ys
quiet_after-append quiet (End cycle freed ∷ xs) ys = quiet_after-append false xs ys
quiet_after-append quiet (Open number run ∷ xs) ys = quiet_after-append false xs ys

-- whether each end among some entries comes where it is so
abbrev pub ends_quietly : Bool → List Entry → Bool
ends_quietly quiet [] = true
ends_quietly quiet (Begin cycle full ∷ entries) = ends_quietly full entries
ends_quietly quiet (Pause visits ∷ entries) = ends_quietly quiet entries
ends_quietly quiet (Visits who visits ∷ entries) = ends_quietly quiet entries
ends_quietly quiet (Taken block ∷ entries) = ends_quietly quiet entries
ends_quietly quiet (Sweep block ∷ entries) = ends_quietly quiet entries
ends_quietly quiet (Call who op reply ∷ entries) = ends_quietly false entries
ends_quietly quiet (End cycle freed ∷ entries) = quiet && ends_quietly false entries
ends_quietly quiet (Open number run ∷ entries) = ends_quietly false entries

-- sweeps don't matter to it
ends_quietly-marks : (quiet : Bool) (entries : List Entry) →
    ends_quietly quiet entries ≡ ends_quietly quiet (filter (λ entry. not (is_sweep entry)) entries)
ends_quietly-marks quiet [] = refl
ends_quietly-marks quiet (Begin cycle full ∷ entries) = ends_quietly-marks full entries
ends_quietly-marks quiet (Pause visits ∷ entries) = ends_quietly-marks quiet entries
ends_quietly-marks quiet (Visits who visits ∷ entries) = ends_quietly-marks quiet entries
ends_quietly-marks quiet (Taken block ∷ entries) = ends_quietly-marks quiet entries
ends_quietly-marks quiet (Sweep block ∷ entries) = ends_quietly-marks quiet entries
ends_quietly-marks quiet (Call who op reply ∷ entries) = ends_quietly-marks false entries
ends_quietly-marks quiet (End cycle freed ∷ entries) = ap (λ b. quiet && b) (ends_quietly-marks false entries)
ends_quietly-marks quiet (Open number run ∷ entries) = ends_quietly-marks false entries

-- where the event is an end, nothing but marking and sweeping came since a full cycle began
abbrev pub EndsQuietly : Bool → List Event → Event → Type 0
EndsQuietly quiet before event =
    (cycle : ℕ) (freed : List ℕ) → event.entry ≡ End cycle freed → quiet_after quiet (entries_of before) ≡ true

each_ends_quietly : (quiet : Bool) (events : List Event) → ends_quietly quiet (entries_of events) ≡ true →
    Each (EndsQuietly quiet) events
each_ends_quietly quiet [] passes zero event is = absurd (cc)
each_ends_quietly quiet [] passes (suc place) event is = absurd (cc)
each_ends_quietly quiet (first ∷ events) passes zero event is = λ cycle freed end.
    let same : first ≡ event = cc in
    let ends : first.entry ≡ End cycle freed = ap (λ (e : Event). e.entry) same ∙ end in
    (and_parts quiet (ends_quietly false (entries_of events))
    (subst (λ (entry : Entry). ends_quietly quiet (entry ∷ entries_of events) ≡ true) ends passes)).0
each_ends_quietly quiet (first ∷ events) passes (suc place) event is = λ cycle freed end.
    by_entry first.entry (λ q rest. each_ends_quietly q events rest place event is cycle freed end) passes
  where
    by_entry : (entry : Entry) →
        ((q : Bool) → ends_quietly q (entries_of events) ≡ true →
        quiet_after q (entries_of (take place events)) ≡ true) →
        ends_quietly quiet (entry ∷ entries_of events) ≡ true →
        quiet_after quiet (entry ∷ entries_of (take place events)) ≡ true
    by_entry (Begin cycle full) others rest = others full rest
    by_entry (Pause visits) others rest = others quiet rest
    by_entry (Visits who visits) others rest = others quiet rest
    by_entry (Taken block) others rest = others quiet rest
    by_entry (Sweep block) others rest = others quiet rest
    by_entry (Call who op reply) others rest = others false rest
    by_entry (End cycle freed) others rest =
        others false (and_parts quiet (ends_quietly false (entries_of events)) rest).1
    by_entry (Open number run) others rest = others false rest

-- no cycle marks after the history, and each of its ends is such
pub record RestsQuietly (layout : Layout) (history : List Event) : Type 0 where
  pub rests : marks_after layout history ≡ false
  pub ends : Each (EndsQuietly false) history

-- a part keeps it so
part_is_quiet : (pace : Pace) (layout : Layout) (before : List Event) (period : Period) →
    StandsPeriod pace layout before period → RestsQuietly layout before →
    RestsQuietly layout (after_part pace layout before period)
part_is_quiet pace layout before period stands quiet = record {
  rests =
      ap (λ (s : State). is_marking_phase s.phase) (state_after-append layout (opened pace layout before) period.part)
      ∙ phase_after-events layout (state_after layout (opened pace layout before)) period.part
      ∙ marking_after-part (marks_after layout (opened pace layout before)) (entries_of period.part) entries
      ∙ ap (λ (s : State). is_marking_phase s.phase) (state_after-push layout before opening)
      ∙ quiet.rests;
  ends = Each-append (EndsQuietly false) (opened pace layout before) period.part
      (Each-append (EndsQuietly false) before (opening ∷ []) quiet.ends
      (Each-all (λ b e. EndsQuietly false (before ++ b) e) (λ e. is_open e.entry)
      (λ b e is cycle freed end. absurd (true≢false (sym is ∙ ap is_open end))) (opening ∷ []) refl))
      (Each-all (λ b e. EndsQuietly false (opened pace layout before ++ b) e) (λ e. is_of_part e.entry)
      (λ b e is cycle freed end. absurd (true≢false (sym is ∙ ap is_of_part end))) period.part all);
}
  where
    opening : Event
    opening = plain (Open (open_count before + 1) (next_run pace layout before))

    all : list_all (λ e. is_of_part e.entry) period.part ≡ true
    all = list_all-from_AllPass (λ e. is_of_part e.entry) period.part stands.entries

    entries : list_all is_of_part (entries_of period.part) ≡ true
    entries = list_all-map is_of_part (λ e. e.entry) period.part ∙ all

-- a cycle that has to be over in its freeze is a full one
must_is_full : (must : Bool) (cycle : ℕ) → must ≡ true → begins_full must cycle ≡ true
must_is_full must cycle is = ap (λ (b : Bool). b || (cycle % 4 == 0)) is

-- a freeze before which no cycle marks, and in which none is due, runs a whole full one or none
abbrev pub IsWholeOrNone : List Entry → Type 0
IsWholeOrNone marks =
    (marks ≡ []) ⊎ ((cycle visits : ℕ) × (freed : List ℕ) × (marks ≡ Begin cycle true ∷ Pause visits ∷ End cycle freed ∷ []))

freeze_is_whole_or_none : (pace : Pace) (layout : Layout) (here : List Event) (run : ℕ) (must : Bool)
    (marks : List Entry) → pace.trigger ≡ 0 → marks_after layout here ≡ false →
    IsFreeze pace layout here run must marks → IsWholeOrNone marks
freeze_is_whole_or_none pace layout here run must marks never rests freeze = by_must must refl
  where
    only_new : marks ≡ freeze.new
    only_new = freeze.are ∙ ap (λ (old : List Entry). old ++ freeze.new) (freeze.rests rests)

    not_due : is_due pace layout here ≡ false
    not_due =
        ap (λ (marking : Bool). not marking && is_triggered pace.trigger (born_since is_end here)) rests
        ∙ ap (λ (trigger : ℕ). is_triggered trigger (born_since is_end here)) never

    whole : (cycle : ℕ) (full : Bool) (paused : Paused) → full ≡ true →
        freeze.new ≡ Begin cycle full ∷ Pause paused.visits ∷ end_entries cycle paused.freed →
        (freed : Option (List ℕ)) → paused.freed ≡ freed → is_some freed ≡ true → IsWholeOrNone marks
    whole cycle full paused must are None is some = absurd (cc)
    whole cycle full paused must are (Some freed) is some =
        inr (
          cycle,
          paused.visits,
          freed,
          only_new ∙ are
              ∙ ap (λ (f : Option (List ℕ)). Begin cycle full ∷ Pause paused.visits ∷ end_entries cycle f) is
              ∙ ap (λ (b : Bool). Begin cycle b ∷ Pause paused.visits ∷ End cycle freed ∷ []) must,
        )

    by_must : (m : Bool) → must ≡ m → IsWholeOrNone marks
    by_must true is =
        let begins = freeze.begins (ap (λ b. b || is_due pace layout here) is) in
        whole _ _ begins.paused (must_is_full must (begin_count here + 1) is) begins.are begins.paused.freed refl
        (begins.pause.ends is)
    by_must false is = inl (only_new ∙ freeze.stays (ap (λ b. b || is_due pace layout here) is ∙ not_due))

-- so a period keeps it too
period_is_quiet : (pace : Pace) (layout : Layout) (before : List Event) (period : Period) → pace.trigger ≡ 0 →
    StandsPeriod pace layout before period → RestsQuietly layout before →
    RestsQuietly layout (after_period pace layout before period)
period_is_quiet pace layout before period never stands quiet = record {
  rests =
      ap (λ (s : State). is_marking_phase s.phase) (state_after-append layout here period.freeze)
      ∙ phase_after-events layout (state_after layout here) period.freeze
      ∙ marking_after-marks (marks_after layout here) (entries_of period.freeze)
      ∙ ap (λ b. marking_after b (marks_of period.freeze)) part.rests
      ∙ marking shape;
  ends = Each-append (EndsQuietly false) here period.freeze part.ends late;
}
  where
    here : List Event
    here = after_part pace layout before period

    part : RestsQuietly layout here
    part = part_is_quiet pace layout before period stands quiet

    shape : IsWholeOrNone (marks_of period.freeze)
    shape = freeze_is_whole_or_none pace layout here (next_run pace layout before)
        (is_forced layout (opened pace layout before) period.part) (marks_of period.freeze) never part.rests stands.freeze

    marking : IsWholeOrNone (marks_of period.freeze) → marking_after false (marks_of period.freeze) ≡ false
    marking (inl none) = ap (marking_after false) none
    marking (inr cycle) = ap (marking_after false) cycle.3

    quiet_here : Bool
    quiet_here = quiet_after false (entries_of here)

    ending : IsWholeOrNone (marks_of period.freeze) → ends_quietly quiet_here (marks_of period.freeze) ≡ true
    ending (inl none) = ap (ends_quietly quiet_here) none
    ending (inr cycle) = ap (ends_quietly quiet_here) cycle.3

    late : Each (λ b e. EndsQuietly false (here ++ b) e) period.freeze
    late place event is = λ cycle freed end.
        ap (quiet_after false) (map-append (λ e. e.entry) here (take place period.freeze))
        ∙ quiet_after-append false (entries_of here) (entries_of (take place period.freeze))
        ∙ each_ends_quietly quiet_here period.freeze
        (ends_quietly-marks quiet_here (entries_of period.freeze) ∙ ending shape) place event is cycle freed end

pub periods_are_quiet : (pace : Pace) (layout : Layout) → pace.trigger ≡ 0 → (history : List Event) →
    ArePeriods pace layout history → RestsQuietly layout history
periods_are_quiet pace layout never _ no_period = record { rests = refl; ends = Each-nil (EndsQuietly false) }
periods_are_quiet pace layout never _ (one_more before period periods stands) =
    period_is_quiet pace layout before period never stands (periods_are_quiet pace layout never before periods)
