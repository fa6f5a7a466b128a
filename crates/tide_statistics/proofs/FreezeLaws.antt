-- How a log goes on having what a history says over a whole freeze, and over a whole period: where it is told of the
-- part's opening, and of each beginning and each end in the freeze, in their order.
use Rattle.std.proofs.Common.{ℕ, ◌≡◌, ◌+◌, ◌∙◌, refl, sym, ap, subst, Bool, true, false, List, [], ◌∷◌, ◌++◌, append_assoc, append-nil, Option, None, Some}
use Rattle.std.proofs.lemmas.List.Sums.{list_all-from_AllPass}
use Rattle.std.specs.Prelude.{◌||◌, count_by, filter, map, not}
use Rattle.tide_model.specs.declared.entry.Entry.{Entry}
use Rattle.tide_model.specs.declared.entry.Entry.TheVariants.{Begin, Call, End, Open, Pause, Sweep, Taken, Visits}
use Rattle.tide_model.specs.declared.entry.Event.{Event}
use Rattle.tide_model.specs.Cycle.{begin_count}
use Rattle.tide_model.specs.Freeze.{Begins, GoesOn, IsFreeze, Paused, begins_full, is_due, marks_after, marks_of, pause_entries, visits_entries}
use Rattle.tide_model.specs.History.{is_begin, plain}
use Rattle.tide_model.specs.Layout.{Layout}
use Rattle.tide_model.specs.Pace.{Pace}
use Rattle.tide_model.specs.Periods.{Period, StandsPeriod, after_part, after_period, is_forced, next_run, open_count, opened}
use Rattle.tide_model.specs.Since.{born_since, is_birth, is_end, is_of_part, is_sweep}
use Rattle.tide_model.proofs.SinceLaws.{since-none}
use Rattle.tide_statistics.specs.Statistics.{HasLogged, Logged, told_by}
use Rattle.tide_statistics.proofs.LogLaws.{HasLogged-begun, HasLogged-ended, HasLogged-opened, HasLogged-other, HasLogged-part, HasLogged-paused, HasLogged-visited, born_since-beside, is_told}

-- a log, with how many cells were born since the last end and since a cycle last began
pub record Tally : Type 0 where
  pub log : Logged
  pub since_end : ℕ
  pub in_cycle : ℕ

-- they are what the history says
pub record HasTallied (history : List Event) (tally : Tally) : Type 0 where
  pub logged : HasLogged history tally.log
  pub since_end : tally.since_end ≡ born_since is_end history
  pub in_cycle : tally.in_cycle ≡ born_since is_begin history

-- what an entry of a freeze leaves of them, where the log is told of it
abbrev pub tally_with : Tally → Entry → Tally
tally_with tally (Begin cycle full) = record {
  log = record tally.log { begun = tally.log.begun + 1; full = full; parts = 0; before = tally.since_end; paused = 0; visited = 0 };
  since_end = tally.since_end;
  in_cycle = 0;
}
tally_with tally (Pause visits) = record {
  log = record tally.log { paused = tally.log.paused + visits };
  since_end = tally.since_end;
  in_cycle = tally.in_cycle;
}
tally_with tally (Visits who visits) = record {
  log = record tally.log { visited = tally.log.visited + visits };
  since_end = tally.since_end;
  in_cycle = tally.in_cycle;
}
tally_with tally (End cycle freed) = record {
  log = record tally.log { ended = tally.log.ended ++ told_by tally.log tally.in_cycle ∷ [] };
  since_end = 0;
  in_cycle = tally.in_cycle;
}
tally_with tally _ = tally

-- what some entries leave of them
abbrev pub tally_after : Tally → List Entry → Tally
tally_after tally [] = tally
tally_after tally (entry ∷ entries) = tally_after (tally_with tally entry) entries

-- the entry is one of a freeze, and where it ends a cycle, the one that began last
abbrev pub IsOfFreeze : Tally → Entry → Type 0
IsOfFreeze tally (Call who op reply) = ⊥
IsOfFreeze tally (Begin cycle full) = Unit {0}
IsOfFreeze tally (Pause visits) = Unit {0}
IsOfFreeze tally (Visits who visits) = Unit {0}
IsOfFreeze tally (End cycle freed) = cycle ≡ tally.log.begun
IsOfFreeze tally (Taken block) = ⊥
IsOfFreeze tally (Sweep block) = Unit {0}
IsOfFreeze tally (Open number run) = ⊥

-- so is each of some entries
abbrev pub AreOfFreeze : Tally → List Entry → Type 0
AreOfFreeze tally [] = Unit {0}
AreOfFreeze tally (entry ∷ entries) = IsOfFreeze tally entry × AreOfFreeze (tally_with tally entry) entries

-- nothing was born yet since an event of this kind
born-none : (test : Entry → Bool) (history : List Event) (event : Event) → test event.entry ≡ true → born_since test (history ++ event ∷ []) ≡ 0
born-none test history event is = ap (count_by (λ (e : Event). is_birth e.entry)) (since-none test history event is)

-- an event that a log isn't told of
HasTallied-other : (history : List Event) (event : Event) (tally : Tally) → is_told event.entry ≡ false → is_begin event.entry ≡ false → is_end event.entry ≡ false →
    is_birth event.entry ≡ false → HasTallied history tally → HasTallied (history ++ event ∷ []) tally
HasTallied-other history event tally untold begins ends births has = record {
  logged = HasLogged-other history event tally.log untold has.logged;
  since_end = has.since_end ∙ sym (born_since-beside is_end history event ends births);
  in_cycle = has.in_cycle ∙ sym (born_since-beside is_begin history event begins births);
}

-- one more entry of a freeze
HasTallied-push : (history : List Event) (event : Event) (tally : Tally) (entry : Entry) → event.entry ≡ entry → IsOfFreeze tally entry → HasTallied history tally →
    HasTallied (history ++ event ∷ []) (tally_with tally entry)
HasTallied-push history event tally (Call who op reply) is of has = absurd of
HasTallied-push history event tally (Begin cycle full) is of has = record {
  logged = HasLogged-begun history event cycle full tally.since_end tally.log is has.logged has.since_end;
  since_end = has.since_end ∙ sym (born_since-beside is_end history event (ap is_end is) (ap is_birth is));
  in_cycle = sym (born-none is_begin history event (ap is_begin is));
}
HasTallied-push history event tally (Pause visits) is of has = record {
  logged = HasLogged-paused history event visits tally.log is has.logged;
  since_end = has.since_end ∙ sym (born_since-beside is_end history event (ap is_end is) (ap is_birth is));
  in_cycle = has.in_cycle ∙ sym (born_since-beside is_begin history event (ap is_begin is) (ap is_birth is));
}
HasTallied-push history event tally (Visits who visits) is of has = record {
  logged = HasLogged-visited history event who visits tally.log is has.logged;
  since_end = has.since_end ∙ sym (born_since-beside is_end history event (ap is_end is) (ap is_birth is));
  in_cycle = has.in_cycle ∙ sym (born_since-beside is_begin history event (ap is_begin is) (ap is_birth is));
}
HasTallied-push history event tally (End cycle freed) is of has = record {
  logged = HasLogged-ended history event freed tally.in_cycle tally.log (is ∙ ap (λ (number : ℕ). End number freed) of) has.logged has.in_cycle;
  since_end = sym (born-none is_end history event (ap is_end is));
  in_cycle = has.in_cycle ∙ sym (born_since-beside is_begin history event (ap is_begin is) (ap is_birth is));
}
HasTallied-push history event tally (Taken block) is of has = absurd of
HasTallied-push history event tally (Sweep block) is of has = HasTallied-other history event tally (ap is_told is) (ap is_begin is) (ap is_end is) (ap is_birth is) has
HasTallied-push history event tally (Open number run) is of has = absurd of

-- the entries of some events
abbrev entries_of : List Event → List Entry
entries_of events = map (λ event. event.entry) events

-- more entries of a freeze
HasTallied-all : (history events : List Event) (tally : Tally) → AreOfFreeze tally (entries_of events) → HasTallied history tally →
    HasTallied (history ++ events) (tally_after tally (entries_of events))
HasTallied-all history [] tally of has = subst (λ (h : List Event). HasTallied h tally) (sym (append-nil history)) has
HasTallied-all history (event ∷ events) tally of has =
    subst (λ (h : List Event). HasTallied h (tally_after (tally_with tally event.entry) (entries_of events))) (append_assoc history (event ∷ []) events)
    (HasTallied-all (history ++ event ∷ []) events (tally_with tally event.entry) of.1 (HasTallied-push history event tally event.entry refl of.0 has))

-- the entries without the sweeps
abbrev unswept : List Entry → List Entry
unswept entries = filter (λ entry. not (is_sweep entry)) entries

-- sweeps change nothing
tally-unswept : (tally : Tally) (entries : List Entry) → tally_after tally (unswept entries) ≡ tally_after tally entries
tally-unswept tally [] = refl
tally-unswept tally (Call who op reply ∷ entries) = tally-unswept tally entries
tally-unswept tally (Begin cycle full ∷ entries) = tally-unswept (tally_with tally (Begin cycle full)) entries
tally-unswept tally (Pause visits ∷ entries) = tally-unswept (tally_with tally (Pause visits)) entries
tally-unswept tally (Visits who visits ∷ entries) = tally-unswept (tally_with tally (Visits who visits)) entries
tally-unswept tally (End cycle freed ∷ entries) = tally-unswept (tally_with tally (End cycle freed)) entries
tally-unswept tally (Taken block ∷ entries) = tally-unswept tally entries
tally-unswept tally (Sweep block ∷ entries) = tally-unswept tally entries
tally-unswept tally (Open number run ∷ entries) = tally-unswept tally entries

-- and are entries of a freeze
with_sweeps : (tally : Tally) (entries : List Entry) → AreOfFreeze tally (unswept entries) → AreOfFreeze tally entries
with_sweeps tally [] of = tt
with_sweeps tally (Call who op reply ∷ entries) of = absurd of.0
with_sweeps tally (Begin cycle full ∷ entries) of = (tt, with_sweeps (tally_with tally (Begin cycle full)) entries of.1)
with_sweeps tally (Pause visits ∷ entries) of = (tt, with_sweeps (tally_with tally (Pause visits)) entries of.1)
with_sweeps tally (Visits who visits ∷ entries) of = (tt, with_sweeps (tally_with tally (Visits who visits)) entries of.1)
with_sweeps tally (End cycle freed ∷ entries) of = (of.0, with_sweeps (tally_with tally (End cycle freed)) entries of.1)
with_sweeps tally (Taken block ∷ entries) of = absurd of.0
with_sweeps tally (Sweep block ∷ entries) of = (tt, with_sweeps tally entries of)
with_sweeps tally (Open number run ∷ entries) of = absurd of.0

pub tally-append : (tally : Tally) (xs ys : List Entry) → tally_after tally (xs ++ ys) ≡ tally_after (tally_after tally xs) ys
tally-append tally [] ys = refl
tally-append tally (x ∷ xs) ys = tally-append (tally_with tally x) xs ys

AreOfFreeze-append : (tally : Tally) (xs ys : List Entry) → AreOfFreeze tally xs → AreOfFreeze (tally_after tally xs) ys → AreOfFreeze tally (xs ++ ys)
AreOfFreeze-append tally [] ys early late = late
AreOfFreeze-append tally (x ∷ xs) ys early late = (early.0, AreOfFreeze-append (tally_with tally x) xs ys early.1 late)

-- what visitors made black begins no cycle
begun-visits : (tally : Tally) (who : ℕ) (visits : List ℕ) → (tally_after tally (visits_entries who visits)).log.begun ≡ tally.log.begun
begun-visits tally who [] = refl
begun-visits tally who (v ∷ visits) = begun-visits (tally_with tally (Visits who v)) (who + 1) visits

visits_of_freeze : (tally : Tally) (who : ℕ) (visits : List ℕ) → AreOfFreeze tally (visits_entries who visits)
visits_of_freeze tally who [] = tt
visits_of_freeze tally who (v ∷ visits) = (tt, visits_of_freeze (tally_with tally (Visits who v)) (who + 1) visits)

-- a pause, and the end of the cycle that began last, if it ends; no cycle more has begun then
pause_of_freeze : (tally : Tally) (paused : Paused) → AreOfFreeze tally (pause_entries tally.log.begun paused)
pause_of_freeze tally paused = step paused.freed
  where
    step : (freed : Option (List ℕ)) → AreOfFreeze tally (pause_entries tally.log.begun (record { visits = paused.visits; freed = freed }))
    step None = (tt, tt)
    step (Some freed) = (tt, (refl, tt))

begun-pause : (tally : Tally) (cycle : ℕ) (paused : Paused) → (tally_after tally (pause_entries cycle paused)).log.begun ≡ tally.log.begun
begun-pause tally cycle paused = step paused.freed
  where
    step : (freed : Option (List ℕ)) → (tally_after tally (pause_entries cycle (record { visits = paused.visits; freed = freed }))).log.begun ≡ tally.log.begun
    step None = refl
    step (Some freed) = refl

-- the first half of a freeze
goes_on : (pace : Pace) (layout : Layout) (here : List Event) (run : ℕ) (is_forced : Bool) (entries : List Entry) (tally : Tally) → tally.log.begun ≡ begin_count here →
    GoesOn pace layout here run is_forced entries → AreOfFreeze tally entries × ((tally_after tally entries).log.begun ≡ begin_count here)
goes_on pace layout here run is_forced entries tally begun on =
    let visits = visits_entries 0 on.visits in
    let pause = pause_entries (begin_count here) on.paused in
    let later = tally_after tally visits in
    let same : later.log.begun ≡ begin_count here = begun-visits tally 0 on.visits ∙ begun in
    let of : AreOfFreeze tally (visits ++ pause) =
    AreOfFreeze-append tally visits pause (visits_of_freeze tally 0 on.visits)
    (subst (λ (n : ℕ). AreOfFreeze later (pause_entries n on.paused)) same (pause_of_freeze later on.paused)) in
    let after : (tally_after tally (visits ++ pause)).log.begun ≡ begin_count here =
    ap (λ (t : Tally). t.log.begun) (tally-append tally visits pause)
    ∙ begun-pause later (begin_count here) on.paused ∙ same in
    (subst (AreOfFreeze tally) (sym on.are) of, ap (λ (all : List Entry). (tally_after tally all).log.begun) on.are ∙ after)

-- the second half
begins : (pace : Pace) (here : List Event) (is_forced : Bool) (entries : List Entry) (tally : Tally) → tally.log.begun ≡ begin_count here →
    Begins pace here is_forced entries → AreOfFreeze tally entries
begins pace here is_forced entries tally begun new =
    let full = begins_full is_forced (begin_count here + 1) in
    let later = tally_with tally (Begin (begin_count here + 1) full) in
    let more : later.log.begun ≡ begin_count here + 1 = ap (λ (n : ℕ). n + 1) begun in
    subst (AreOfFreeze tally) (sym new.are)
    (tt, subst (λ (n : ℕ). AreOfFreeze later (pause_entries n new.paused)) more (pause_of_freeze later new.paused))

-- all entries of a freeze are of one
of_freeze : (pace : Pace) (layout : Layout) (here : List Event) (run : ℕ) (is_forced : Bool) (entries : List Entry) (tally : Tally) →
    tally.log.begun ≡ begin_count here → IsFreeze pace layout here run is_forced entries → AreOfFreeze tally entries
of_freeze pace layout here run is_forced entries tally begun freeze =
    subst (AreOfFreeze tally) (sym freeze.are) (AreOfFreeze-append tally freeze.old freeze.new first.0 second)
  where
    early : (marks : Bool) → marks_after layout here ≡ marks → AreOfFreeze tally freeze.old × ((tally_after tally freeze.old).log.begun ≡ begin_count here)
    early true is = goes_on pace layout here run is_forced freeze.old tally begun (freeze.goes_on is)
    early false is = subst (λ (old : List Entry). AreOfFreeze tally old × ((tally_after tally old).log.begun ≡ begin_count here)) (sym (freeze.rests is)) (tt, begun)

    first : AreOfFreeze tally freeze.old × ((tally_after tally freeze.old).log.begun ≡ begin_count here)
    first = early (marks_after layout here) refl

    late : (starts : Bool) → (is_forced || is_due pace layout here) ≡ starts → AreOfFreeze (tally_after tally freeze.old) freeze.new
    late true is = begins pace here is_forced freeze.new (tally_after tally freeze.old) first.1 (freeze.begins is)
    late false is = subst (AreOfFreeze (tally_after tally freeze.old)) (sym (freeze.stays is)) tt

    second : AreOfFreeze (tally_after tally freeze.old) freeze.new
    second = late (is_forced || is_due pace layout here) refl

-- a freeze was run, and the log was told of what began and ended in it
pub HasTallied-freeze : (pace : Pace) (layout : Layout) (here freeze : List Event) (run : ℕ) (is_forced : Bool) (tally : Tally) →
    IsFreeze pace layout here run is_forced (marks_of freeze) → HasTallied here tally → HasTallied (here ++ freeze) (tally_after tally (marks_of freeze))
HasTallied-freeze pace layout here freeze run is_forced tally is has =
    subst (HasTallied (here ++ freeze)) (sym (tally-unswept tally (entries_of freeze)))
    (HasTallied-all here freeze tally (with_sweeps tally (entries_of freeze) (of_freeze pace layout here run is_forced (marks_of freeze) tally has.logged.begun is)) has)

-- what a log has before a period, once it is told of the part's opening, and the births up to the freeze
abbrev pub at_freeze : Pace → Layout → List Event → Period → Logged → Tally
at_freeze pace layout before period log = record {
  log = record log { parts = log.parts + 1 };
  since_end = born_since is_end (after_part pace layout before period);
  in_cycle = born_since is_begin (after_part pace layout before period);
}

-- a period was run, and the log was told of what was opened, began and ended in it
pub HasLogged-period : (pace : Pace) (layout : Layout) (before : List Event) (period : Period) (log : Logged) → StandsPeriod pace layout before period →
    HasLogged before log → HasLogged (after_period pace layout before period) (tally_after (at_freeze pace layout before period log) (marks_of period.freeze)).log
HasLogged-period pace layout before period log stands has =
    let begun = opened pace layout before in
    let all = list_all-from_AllPass (λ (event : Event). is_of_part event.entry) period.part stands.entries in
    let first = HasLogged-opened before (plain (Open (open_count before + 1) (next_run pace layout before))) (open_count before + 1) (next_run pace layout before) log refl has in
    let here = HasLogged-part begun period.part (record log { parts = log.parts + 1 }) all first in
    (HasTallied-freeze pace layout (after_part pace layout before period) period.freeze (next_run pace layout before)
    (is_forced layout begun period.part) (at_freeze pace layout before period log) stands.freeze
    (record { logged = here; since_end = refl; in_cycle = refl })).logged
