-- What a freeze did, as it is worked out from what is known before and after it, is what it did.
use Rattle.std.proofs.Common.{ℕ, ◌≡◌, ◌+◌, ◌∙◌, refl, sym, ap, ap₂, subst, arith, Bool, true, false, List, [], ◌∷◌, ◌++◌, append_assoc, length, Option, None, Some}
use Rattle.std.proofs.lemmas.Bool.{and_parts}
use Rattle.std.proofs.lemmas.List.{append_cancel_left}
use Rattle.std.proofs.lemmas.List.Elements.{filter-append}
use Rattle.std.specs.List.{list_all}
use Rattle.std.specs.Prelude.{◌<◌, ◌≤◌, ◌^◌, ◌&&◌, ◌==◌, ◌||◌, filter, if◌then◌else◌, is_some, map, not, sum}
use Rattle.tide_heap.proofs.tide_freeze.FreezeLaws.{IsFreeze-by}
use Rattle.tide_heap.proofs.tide_freeze.QuietLaws.{HasFrozenWhole-quiet}
use Rattle.tide_heap.specs.tide_core.declared.machine.view.NotedVisits.{NotedVisits}
use Rattle.tide_heap.specs.tide_core.declared.machine.view.View.{View}
use Rattle.tide_heap.specs.tide_freeze.Freezing.{HasFrozenWhole}
use Rattle.tide_model.proofs.Histories.{state_from-append}
use Rattle.tide_model.specs.Cycle.{begin_count}
use Rattle.tide_model.specs.Freeze.{GoesOn, IsFreeze, Paused, begins_full, end_entries, is_due, is_marking_phase, marks_after, marks_of, pause_entries, visits_entries}
use Rattle.tide_model.specs.History.{after_entry, after_event, is_begin, plain, state_after, state_from}
use Rattle.tide_model.specs.Layout.{Layout}
use Rattle.tide_model.specs.Pace.{Pace, call_quota, is_triggered}
use Rattle.tide_model.specs.Prefix.{IsPrefix}
use Rattle.tide_model.specs.Since.{born_since, is_end, is_of_freeze, is_sweep}
use Rattle.tide_model.specs.State.{State, empty_state}
use Rattle.tide_model.specs.declared.entry.Entry.{Entry}
use Rattle.tide_model.specs.declared.entry.Entry.TheVariants.{Begin, Call, End, Open, Pause, Sweep, Taken, Visits}
use Rattle.tide_model.specs.declared.entry.Event.{Event}
use Rattle.tide_sched.specs.Paces.{last_run}
use Rattle.tide_statistics.specs.Few.{PausesAreFew}
use Rattle.tide_statistics.proofs.ToldLaws.{HasLogged-told}
use Rattle.tide_statistics.specs.Statistics.{HasLogged, Logged}
use Rattle.tide_statistics.specs.Told.{TellsFreeze, entries_told, unfreed, with_freeze}
use Rattle.tide_statistics.specs.declared.told.BegunTold.{BegunTold}
use Rattle.tide_statistics.specs.declared.told.PauseTold.{PauseTold}
use Rattle.tide_table.proofs.Pauses.{pauses_from-append}
use Rattle.tide_table.specs.Pauses.{last_pauses, pauses_from, pauses_with}
use Rattle.tide_table.specs.Standing.{EntersTold, MayEnterVisits}
use Rattle.tide_table.specs.VisitsTold.{AreTold, unentered, visits_told}
use Rattle.tide_table.specs.Foreseen.{began_in, on_of, told_of, visits_noted}
use Rattle.tide_table.proofs.Telling.{length-visits_told, sum-visits_told}
use Rattle.tide_table.proofs.VisitsTold.{visits_left-most}

-- the entries of events
abbrev entries_of : List Event → List Entry
entries_of events = map (λ event. event.entry) events

-- those that are no sweeps
abbrev unswept : List Entry → List Entry
unswept entries = filter (λ entry. not (is_sweep entry)) entries

-- the last two pauses once some entries stand
abbrev pauses_by : ℕ × ℕ → List Entry → ℕ × ℕ
pauses_by pauses [] = pauses
pauses_by pauses (entry ∷ entries) = pauses_by (pauses_with pauses entry) entries

-- whether a cycle marks once an entry of a freeze stands, and once some do
abbrev marks_with : Bool → Entry → Bool
marks_with marks (Begin cycle full) = true
marks_with marks (End cycle freed) = false
marks_with marks _ = marks

abbrev marks_by : Bool → List Entry → Bool
marks_by marks [] = marks
marks_by marks (entry ∷ entries) = marks_by (marks_with marks entry) entries

pauses-entries : (pauses : ℕ × ℕ) (events : List Event) → pauses_from pauses events ≡ pauses_by pauses (entries_of events)
pauses-entries pauses [] = refl
pauses-entries pauses (event ∷ events) = pauses-entries (pauses_with pauses event.entry) events

pauses-unswept : (pauses : ℕ × ℕ) (entries : List Entry) → pauses_by pauses entries ≡ pauses_by pauses (unswept entries)
pauses-unswept pauses [] = refl
pauses-unswept pauses (Call who op reply ∷ entries) = pauses-unswept pauses entries
pauses-unswept pauses (Begin cycle full ∷ entries) = pauses-unswept pauses entries
pauses-unswept pauses (Pause visits ∷ entries) = pauses-unswept (pauses.1, visits) entries
pauses-unswept pauses (Visits who visits ∷ entries) = pauses-unswept pauses entries
pauses-unswept pauses (End cycle freed ∷ entries) = pauses-unswept pauses entries
pauses-unswept pauses (Taken block ∷ entries) = pauses-unswept pauses entries
pauses-unswept pauses (Sweep block ∷ entries) = pauses-unswept pauses entries
pauses-unswept pauses (Open number run ∷ entries) = pauses-unswept pauses entries

marks-unswept : (marks : Bool) (entries : List Entry) → marks_by marks entries ≡ marks_by marks (unswept entries)
marks-unswept marks [] = refl
marks-unswept marks (Call who op reply ∷ entries) = marks-unswept marks entries
marks-unswept marks (Begin cycle full ∷ entries) = marks-unswept true entries
marks-unswept marks (Pause visits ∷ entries) = marks-unswept marks entries
marks-unswept marks (Visits who visits ∷ entries) = marks-unswept marks entries
marks-unswept marks (End cycle freed ∷ entries) = marks-unswept false entries
marks-unswept marks (Taken block ∷ entries) = marks-unswept marks entries
marks-unswept marks (Sweep block ∷ entries) = marks-unswept marks entries
marks-unswept marks (Open number run ∷ entries) = marks-unswept marks entries

-- an entry of a freeze leaves the phase so
phase-entry : (layout : Layout) (state : State) (entry : Entry) (took : Option ℕ) → is_of_freeze entry ≡ true →
    is_marking_phase (after_entry layout state entry took).phase ≡ marks_with (is_marking_phase state.phase) entry
phase-entry layout state (Call who op reply) took quiet = absurd (cc)
phase-entry layout state (Begin cycle full) took quiet = refl
phase-entry layout state (Pause visits) took quiet = refl
phase-entry layout state (Visits who visits) took quiet = refl
phase-entry layout state (End cycle freed) took quiet = refl
phase-entry layout state (Taken block) took quiet = refl
phase-entry layout state (Sweep block) took quiet = refl
phase-entry layout state (Open number run) took quiet = refl

marks-entries : (layout : Layout) (state : State) (events : List Event) → list_all (λ event. is_of_freeze event.entry) events ≡ true →
    is_marking_phase (state_from layout state events).phase ≡ marks_by (is_marking_phase state.phase) (entries_of events)
marks-entries layout state [] all = refl
marks-entries layout state (event ∷ events) all =
    let (here, later) = and_parts (is_of_freeze event.entry) (list_all (λ e. is_of_freeze e.entry) events) all in
    marks-entries layout (after_event layout state event) events later
    ∙ ap (λ (b : Bool). marks_by b (entries_of events)) (phase-entry layout state event.entry event.took here)

-- so do the entries of a whole freeze, its sweeps apart
pauses-freeze : (pauses : ℕ × ℕ) (freeze : List Event) → pauses_from pauses freeze ≡ pauses_by pauses (marks_of freeze)
pauses-freeze pauses freeze = pauses-entries pauses freeze ∙ pauses-unswept pauses (entries_of freeze)

marks-freeze : (layout : Layout) (here freeze : List Event) → list_all (λ event. is_of_freeze event.entry) freeze ≡ true →
    marks_after layout (here ++ freeze) ≡ marks_by (marks_after layout here) (marks_of freeze)
marks-freeze layout here freeze all =
    ap (λ (s : State). is_marking_phase s.phase) (state_from-append layout empty_state here freeze)
    ∙ marks-entries layout (state_after layout here) freeze all
    ∙ marks-unswept (marks_after layout here) (entries_of freeze)

-- visits change neither
pauses-visits : (pauses : ℕ × ℕ) (who : ℕ) (visits : List ℕ) (rest : List Entry) →
    pauses_by pauses (visits_entries who visits ++ rest) ≡ pauses_by pauses rest
pauses-visits pauses who [] rest = refl
pauses-visits pauses who (v ∷ visits) rest = pauses-visits pauses (who + 1) visits rest

marks-visits : (marks : Bool) (who : ℕ) (visits : List ℕ) (rest : List Entry) →
    marks_by marks (visits_entries who visits ++ rest) ≡ marks_by marks rest
marks-visits marks who [] rest = refl
marks-visits marks who (v ∷ visits) rest = marks-visits marks (who + 1) visits rest

unfreed-visits : (who : ℕ) (visits : List ℕ) (rest : List Entry) →
    map unfreed (visits_entries who visits ++ rest) ≡ visits_entries who visits ++ map unfreed rest
unfreed-visits who [] rest = refl
unfreed-visits who (v ∷ visits) rest = ap (λ (l : List Entry). Visits who v ∷ l) (unfreed-visits (who + 1) visits rest)

-- what a pause makes of a cycle that marks, in the first half of a freeze
abbrev OldIs : Bool → ℕ → List ℕ → List Entry → Type 0
OldIs true begun visits old = (paused : Paused) × (old ≡ visits_entries 0 visits ++ pause_entries begun paused)
OldIs false begun visits old = (old ≡ []) × (visits ≡ [])

-- and what begins in the second
abbrev NewIs : Option Bool → ℕ → List Entry → Type 0
NewIs None begun new = new ≡ []
NewIs (Some full) begun new = (paused : Paused) × (new ≡ Begin (begun + 1) full ∷ pause_entries (begun + 1) paused)

-- where both have entries, the cycle that marked ended
abbrev EndsFirst : (marked : Bool) (begins : Option Bool) (begun : ℕ) (visits : List ℕ) (old : List Entry) → OldIs marked begun visits old → Type 0
EndsFirst true (Some full) begun visits old is = is_some is.0.freed ≡ true
EndsFirst true None begun visits old is = Unit {0}
EndsFirst false begins begun visits old is = Unit {0}

-- entries that tell it behind no visits tell it behind some
behind : (marked : Bool) (begins : Option Bool) (begun : ℕ) (pauses : ℕ × ℕ) (visits : List ℕ) (one other : List Entry) →
    map unfreed (one ++ other)
    ≡ entries_told begun [] (told_of marked begins (pauses_by pauses (one ++ other)) (marks_by marked (one ++ other))) →
    let all = (visits_entries 0 visits ++ one) ++ other in
    map unfreed all ≡ entries_told begun visits (told_of marked begins (pauses_by pauses all) (marks_by marked all))
behind marked begins begun pauses visits one other are =
    subst (λ (all : List Entry). map unfreed all
    ≡ entries_told begun visits (told_of marked begins (pauses_by pauses all) (marks_by marked all)))
    (sym (append_assoc (visits_entries 0 visits) one other))
    (unfreed-visits 0 visits (one ++ other)
    ∙ ap (λ (l : List Entry). visits_entries 0 visits ++ l) are
    ∙ (λ i. entries_told begun visits (told_of marked begins (sym (pauses-visits pauses 0 visits (one ++ other)) i)
    (sym (marks-visits marked 0 visits (one ++ other)) i))))

-- what both halves have but for visits is what is told of them
halves : (marked : Bool) (begins : Option Bool) (begun : ℕ) (pauses : ℕ × ℕ) (visits : List ℕ) (old new : List Entry) →
    (is : OldIs marked begun visits old) → NewIs begins begun new → EndsFirst marked begins begun visits old is →
    map unfreed (old ++ new)
    ≡ entries_told begun visits (told_of marked begins (pauses_by pauses (old ++ new)) (marks_by marked (old ++ new)))
halves false None begun pauses visits old new is new_is ends =
    subst (λ (l : List Entry × List Entry × List ℕ). map unfreed (l.0 ++ l.1)
    ≡ entries_told begun l.2 (told_of false None (pauses_by pauses (l.0 ++ l.1)) (marks_by false (l.0 ++ l.1))))
    (λ i. (sym is.0 i, sym new_is i, sym is.1 i)) refl
halves false (Some full) begun pauses visits old new is new_is ends =
    subst (λ (l : List Entry × List Entry × List ℕ). map unfreed (l.0 ++ l.1)
    ≡ entries_told begun l.2 (told_of false (Some full) (pauses_by pauses (l.0 ++ l.1)) (marks_by false (l.0 ++ l.1))))
    (λ i. (sym is.0 i, sym new_is.1 i, sym is.1 i)) (step new_is.0.visits new_is.0.freed)
  where
    step : (k : ℕ) (freed : Option (List ℕ)) → let new = Begin (begun + 1) full ∷ (Pause k ∷ end_entries (begun + 1) freed) in
        map unfreed new ≡ entries_told begun [] (told_of false (Some full) (pauses_by pauses new) (marks_by false new))
    step k None = refl
    step k (Some freed) = refl
halves true None begun pauses visits old new is new_is ends =
    subst (λ (l : List Entry × List Entry). map unfreed (l.0 ++ l.1)
    ≡ entries_told begun visits (told_of true None (pauses_by pauses (l.0 ++ l.1)) (marks_by true (l.0 ++ l.1))))
    (λ i. (sym is.1 i, sym new_is i)) (whole is.0.visits is.0.freed)
  where
    step : (k : ℕ) (freed : Option (List ℕ)) → let rest = (Pause k ∷ end_entries begun freed) ++ [] in
        map unfreed rest ≡ entries_told begun [] (told_of true None (pauses_by pauses rest) (marks_by true rest))
    step k None = refl
    step k (Some freed) = refl

    whole : (k : ℕ) (freed : Option (List ℕ)) → let all = (visits_entries 0 visits ++ (Pause k ∷ end_entries begun freed)) ++ [] in
        map unfreed all ≡ entries_told begun visits (told_of true None (pauses_by pauses all) (marks_by true all))
    whole k freed = behind true None begun pauses visits (Pause k ∷ end_entries begun freed) [] (step k freed)
halves true (Some full) begun pauses visits old new is new_is ends =
    subst (λ (l : List Entry × List Entry). map unfreed (l.0 ++ l.1)
    ≡ entries_told begun visits (told_of true (Some full) (pauses_by pauses (l.0 ++ l.1)) (marks_by true (l.0 ++ l.1))))
    (λ i. (sym is.1 i, sym new_is.1 i)) (whole is.0.visits is.0.freed ends)
  where
    new_is_so : List Entry
    new_is_so = Begin (begun + 1) full ∷ pause_entries (begun + 1) new_is.0

    step : (k : ℕ) (freed : Option (List ℕ)) → is_some freed ≡ true → (m : ℕ) (more : Option (List ℕ)) →
        let rest = (Pause k ∷ end_entries begun freed) ++ (Begin (begun + 1) full ∷ (Pause m ∷ end_entries (begun + 1) more)) in
        map unfreed rest ≡ entries_told begun [] (told_of true (Some full) (pauses_by pauses rest) (marks_by true rest))
    step k None ended m more = absurd (cc)
    step k (Some freed) ended m None = refl
    step k (Some freed) ended m (Some more) = refl

    whole : (k : ℕ) (freed : Option (List ℕ)) → is_some freed ≡ true →
        let all = (visits_entries 0 visits ++ (Pause k ∷ end_entries begun freed)) ++ new_is_so in
        map unfreed all ≡ entries_told begun visits (told_of true (Some full) (pauses_by pauses all) (marks_by true all))
    whole k freed ended =
        behind true (Some full) begun pauses visits (Pause k ∷ end_entries begun freed) new_is_so
        (step k freed ended new_is.0.visits new_is.0.freed)

-- the visits with which a list of entries begins
visit_first : List Entry → ℕ
visit_first [] = 0
visit_first (Visits who visits ∷ entries) = visits
visit_first (Call who op reply ∷ entries) = 0
visit_first (Begin cycle full ∷ entries) = 0
visit_first (Pause visits ∷ entries) = 0
visit_first (End cycle freed ∷ entries) = 0
visit_first (Taken block ∷ entries) = 0
visit_first (Sweep block ∷ entries) = 0
visit_first (Open number run ∷ entries) = 0

tail_of : List Entry → List Entry
tail_of [] = []
tail_of (entry ∷ entries) = entries

-- as many visits with which the same entries begin are the same
same_visits : (who : ℕ) (one other : List ℕ) (rest more : List Entry) → length one ≡ length other →
    visits_entries who one ++ rest ≡ visits_entries who other ++ more → one ≡ other
unfolding tail_of visit_first
same_visits who [] [] rest more long same = refl
same_visits who [] (v ∷ other) rest more long same = absurd (omega (arith, long))
same_visits who (v ∷ one) [] rest more long same = absurd (omega (arith, long))
same_visits who (v ∷ one) (w ∷ other) rest more long same =
    ap₂ (λ (x : ℕ) (l : List ℕ). x ∷ l) (ap visit_first same)
    (same_visits (who + 1) one other rest more (omega (arith, long)) (ap tail_of same))

-- visits that are entered alone
visits_alone : (who : ℕ) (visits : List ℕ) → marks_of (map plain (visits_entries who visits)) ≡ visits_entries who visits
visits_alone who [] = refl
visits_alone who (v ∷ visits) = ap (λ (l : List Entry). Visits who v ∷ l) (visits_alone (who + 1) visits)

entries-append : (one other : List Event) → entries_of (one ++ other) ≡ entries_of one ++ entries_of other
entries-append [] other = refl
entries-append (event ∷ one) other = ap (λ (l : List Entry). event.entry ∷ l) (entries-append one other)

-- what a freeze enters first are the visits that its first half has
pub visits-entered : (pace : Pace) (layout : Layout) (here freeze : List Event) (run : ℕ) (is_forced : Bool) (visits : List ℕ) (old new : List Entry) →
    length visits ≡ layout.visitors → IsPrefix (here ++ map plain (visits_entries 0 visits)) (here ++ freeze) →
    marks_of freeze ≡ old ++ new → (on : GoesOn pace layout here run is_forced old) → on.visits ≡ visits
visits-entered pace layout here freeze run is_forced visits old new long begins are on =
    sym (same_visits 0 visits on.visits (marks_of begins.rest) (pause_entries (begin_count here) on.paused ++ new)
    (long ∙ sym on.one_each) (sym front ∙ are ∙ ap (λ (l : List Entry). l ++ new) on.are
    ∙ append_assoc (visits_entries 0 on.visits) (pause_entries (begin_count here) on.paused) new))
  where
    entered : List Event
    entered = map plain (visits_entries 0 visits)

    split : entered ++ begins.rest ≡ freeze
    split = append_cancel_left here (entered ++ begins.rest) freeze (sym (append_assoc here entered begins.rest) ∙ begins.joins)

    front : marks_of freeze ≡ visits_entries 0 visits ++ marks_of begins.rest
    front = ap marks_of (sym split) ∙ ap unswept (entries-append entered begins.rest)
        ∙ filter-append (λ (entry : Entry). not (is_sweep entry)) (entries_of entered) (entries_of begins.rest)
        ∙ ap (λ (l : List Entry). l ++ marks_of begins.rest) (visits_alone 0 visits)

first_true : (one other : Bool) → (one || other) ≡ true → other ≡ false → one ≡ true
first_true true other either isnt = refl
first_true false other either isnt = absurd (cc)

-- A freeze tells what is worked out of whether a cycle marked before it and marks behind it, of the cycle that the
-- schedule has begin, and of the last two pauses.
pub TellsFreeze-worked : (pace : Pace) (layout : Layout) (here freeze : List Event) (run : ℕ) (is_forced : Bool) (visits : List ℕ) →
    IsFreeze pace layout here run is_forced (marks_of freeze) → list_all (λ event. is_of_freeze event.entry) freeze ≡ true →
    length visits ≡ (if marks_after layout here then layout.visitors else 0) →
    (marks_after layout here ≡ true → IsPrefix (here ++ map plain (visits_entries 0 visits)) (here ++ freeze)) →
    TellsFreeze here freeze visits (told_of (marks_after layout here) (began_in pace layout here is_forced) (last_pauses (here ++ freeze))
    (marks_after layout (here ++ freeze)))
TellsFreeze-worked pace layout here freeze run is_forced visits is quiet long begins =
    subst (λ (x : (ℕ × ℕ) × Bool). map unfreed (marks_of freeze)
    ≡ entries_told (begin_count here) visits (told_of marks (began_in pace layout here is_forced) x.0 x.1))
    (λ i. (sym paused i, sym behind_it i))
    (subst (λ (all : List Entry). map unfreed all
    ≡ entries_told (begin_count here) visits (told_of marks (began_in pace layout here is_forced) (pauses_by (last_pauses here) all)
    (marks_by marks all))) (sym is.are)
    (all_of marks refl (is_forced || is_due pace layout here) refl))
  where
    marks : Bool
    marks = marks_after layout here

    paused : last_pauses (here ++ freeze) ≡ pauses_by (last_pauses here) (marks_of freeze)
    paused = pauses_from-append (0, 0) here freeze ∙ pauses-freeze (last_pauses here) freeze

    behind_it : marks_after layout (here ++ freeze) ≡ marks_by marks (marks_of freeze)
    behind_it = marks-freeze layout here freeze quiet

    none_of : (l : List ℕ) → length l ≡ 0 → l ≡ []
    none_of [] none = refl
    none_of (v ∷ l) none = absurd (omega (arith, none))

    began : Bool → Option Bool
    began starts = if starts then Some (begins_full is_forced (begin_count here + 1)) else None

    old_is : (m : Bool) → marks ≡ m → OldIs m (begin_count here) visits is.old
    old_is true so =
        let on = is.goes_on so in
        let same = visits-entered pace layout here freeze run is_forced visits is.old is.new
        (long ∙ ap (λ (b : Bool). if b then layout.visitors else 0) so) (begins so) is.are on in
        (on.paused, on.are ∙ ap (λ (l : List ℕ). visits_entries 0 l ++ pause_entries (begin_count here) on.paused) same)
    old_is false so = (is.rests so, none_of visits (long ∙ ap (λ (b : Bool). if b then layout.visitors else 0) so))

    new_is : (starts : Bool) → (is_forced || is_due pace layout here) ≡ starts → NewIs (began starts) (begin_count here) is.new
    new_is true so = let new = is.begins so in (new.paused, new.are)
    new_is false so = is.stays so

    ends : (m : Bool) (so : marks ≡ m) (starts : Bool) → (is_forced || is_due pace layout here) ≡ starts →
        EndsFirst m (began starts) (begin_count here) visits is.old (old_is m so)
    ends true so true starts =
        let undue = ap (λ (b : Bool). not b && is_triggered pace.trigger (born_since is_end here)) so in
        let forced = first_true is_forced (is_due pace layout here) starts undue in
        (is.goes_on so).pause.ends (ap (λ (b : Bool). b || (call_quota pace (born_since is_begin here) == 0)) forced)
    ends true so false starts = tt
    ends false so starts is_so = tt

    all_of : (m : Bool) → marks ≡ m → (starts : Bool) → (is_forced || is_due pace layout here) ≡ starts →
        map unfreed (is.old ++ is.new)
        ≡ entries_told (begin_count here) visits (told_of marks (began_in pace layout here is_forced) (pauses_by (last_pauses here) (is.old ++ is.new))
        (marks_by marks (is.old ++ is.new)))
    all_of m so starts is_so =
        subst (λ (x : Bool × Bool). map unfreed (is.old ++ is.new)
        ≡ entries_told (begin_count here) visits (told_of x.0 (began x.1) (pauses_by (last_pauses here) (is.old ++ is.new))
        (marks_by x.0 (is.old ++ is.new)))) (λ i. (sym so i, sym is_so i))
        (halves m (began starts) (begin_count here) (last_pauses here) visits is.old is.new (old_is m so) (new_is starts is_so) (ends m so starts is_so))

-- so many visits
abbrev begun_few : Option BegunTold → Type 0
begun_few None = Unit {0}
begun_few (Some begun) = begun.pause.visits < 2 ^ 32

abbrev pause_few : Option PauseTold → Type 0
pause_few None = Unit {0}
pause_few (Some pause) = pause.visits < 2 ^ 32

on_few : (marked : Bool) (told pause : PauseTold) → told.visits < 2 ^ 32 → on_of marked told ≡ Some pause → pause.visits < 2 ^ 32
on_few true told pause few is = subst pause_few is few
on_few false told pause few is = absurd (cc)

-- the pauses that are told made fewer than 2^32 cells black, as each number of 32 bits is
pub PausesAreFew-told : (marked : Bool) (begun : Option Bool) (pauses : ℕ × ℕ) (marks : Bool) → pauses.0 < 2 ^ 32 → pauses.1 < 2 ^ 32 →
    PausesAreFew (told_of marked begun pauses marks)
PausesAreFew-told marked None pauses marks before last = record {
  went_on = λ pause is. on_few marked (record { visits = pauses.1; ended = not marks }) pause last is;
  begun = λ begun is. absurd (none_is begun is);
}
  where
    none_is : (begun : BegunTold) → None ≡ Some begun → ⊥
    none_is begun is = cc
PausesAreFew-told marked (Some full) pauses marks before last = record {
  went_on = λ pause is. on_few marked (record { visits = pauses.0; ended = true }) pause before is;
  begun = λ begun is. subst (λ (b : Option BegunTold). begun_few b) is last;
}

-- So does a freeze that did what the schedule asks for, once what each visitor's note told is entered.
pub TellsFreeze-froze : (pace : Pace) (layout : Layout) (v : View) (after : List Event) (is_forced : Bool) →
    (froze : HasFrozenWhole pace layout (last_run v.seen) v.seen after is_forced) → EntersTold layout v after →
    TellsFreeze v.seen froze.events (visits_noted layout v)
    (told_of (marks_after layout v.seen) (began_in pace layout v.seen is_forced) (last_pauses after) (marks_after layout after))
TellsFreeze-froze pace layout v after is_forced froze told =
    subst (λ (h : List Event). TellsFreeze here froze.events visits
    (told_of marks (began_in pace layout here is_forced) (last_pauses h) (marks_after layout h))) (sym froze.entered)
    (TellsFreeze-worked pace layout here froze.events (last_run here) is_forced visits
    (IsFreeze-by pace layout here (last_run here) is_forced froze.events froze.freezes)
    (HasFrozenWhole-quiet pace layout (last_run here) here after is_forced froze) (long marks) begins)
  where
    here : List Event
    here = v.seen

    marks : Bool
    marks = marks_after layout here

    noted : List ℕ
    noted = visits_told v.visited 0 layout.visitors

    visits : List ℕ
    visits = visits_noted layout v

    long : (m : Bool) → length (if m then noted else []) ≡ (if m then layout.visitors else 0)
    long true = length-visits_told v.visited 0 layout.visitors
    long false = refl

    begins : marks ≡ true → IsPrefix (here ++ map plain (visits_entries 0 visits)) (here ++ froze.events)
    begins so =
        subst (λ (x : Bool × List Event). IsPrefix (here ++ map plain (visits_entries 0 (if x.0 then noted else []))) x.1)
        (λ i. (sym so i, froze.entered i)) (told so)

-- A log is told a freeze that it had foreseen: it has what the history says behind it.
pub HasLogged-froze : (pace : Pace) (layout : Layout) (v : View) (after : List Event) (is_forced : Bool) (log : Logged) →
    HasFrozenWhole pace layout (last_run v.seen) v.seen after is_forced → EntersTold layout v after → HasLogged v.seen log →
    HasLogged after (with_freeze log (sum (visits_noted layout v))
    (told_of (marks_after layout v.seen) (began_in pace layout v.seen is_forced) (last_pauses after) (marks_after layout after))
    (born_since is_end v.seen) (born_since is_begin v.seen))
HasLogged-froze pace layout v after is_forced log froze told has =
    let freeze_told = told_of (marks_after layout v.seen) (began_in pace layout v.seen is_forced) (last_pauses after) (marks_after layout after) in
    subst (λ (h : List Event). HasLogged h (with_freeze log (sum (visits_noted layout v)) freeze_told
    (born_since is_end v.seen) (born_since is_begin v.seen))) (sym froze.entered)
    (HasLogged-told pace layout v.seen froze.events (last_run v.seen) is_forced log (visits_noted layout v) freeze_told
    (IsFreeze-by pace layout v.seen (last_run v.seen) is_forced froze.events froze.freezes)
    (TellsFreeze-froze pace layout v after is_forced froze told) has)

-- what notes told and isn't entered is what the visitors told, together
pub unentered-told : (layout : Layout) (run : ℕ) (visited : List NotedVisits) → AreTold layout run visited →
    unentered visited ≡ sum (visits_told visited 0 layout.visitors)
unentered-told layout run visited are = are.all ∙ sym (sum-visits_told visited 0 layout.visitors)

-- those of at most eight visitors, of at most 2^16 each, fit into 32 bits
pub visits_noted-few : (layout : Layout) (v : View) → layout.visitors ≤ 8 → v.run ≤ 2 ^ 16 → MayEnterVisits layout v →
    sum (visits_noted layout v) < 2 ^ 32
visits_noted-few layout v eight few may = step (marks_after layout v.seen) refl
  where
    step : (marks : Bool) → marks_after layout v.seen ≡ marks →
        sum (if marks then visits_told v.visited 0 layout.visitors else []) < 2 ^ 32
    step true so =
        let together = sum-visits_told v.visited 0 layout.visitors in
        let most = visits_left-most v.visited v.run layout.visitors layout.visitors few (omega arith) (may.marked so).are.at_most in
        omega (arith, together, most, eight)
    step false so = omega arith
