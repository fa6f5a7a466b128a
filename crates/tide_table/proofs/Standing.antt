-- From a running part to a freeze, over what it does, and to the next part.
use Rattle.std.proofs.Common.{ℕ, ◌≡◌, ◌+◌, ◌<◌, ◌≤◌, refl, sym, ◌∙◌, ap, subst, arith, Bool, true, false, List, [], ◌∷◌, ◌++◌, append_assoc, append-nil, length}
use Rattle.std.proofs.lemmas.Bool.{and_parts}
use Rattle.std.specs.List.{list_all}
use Rattle.std.specs.Prelude.{◌&&◌, count_by, if◌then◌else◌, map, not}
use Rattle.tide_heap.proofs.tide_freeze.RunningLaws.{part_keeps_books}
use Rattle.tide_heap.proofs.tide_freeze.QuietLaws.{HasFrozen-quiet, open_count-quiet, visits-quiet}
use Rattle.tide_heap.proofs.tide_freeze.VisitLaws.{HasVisited-none, born_begin-visits, born_end-visits, visits_make_freeze}
use Rattle.tide_heap.specs.tide_freeze.Births.{AreBornIn}
use Rattle.tide_heap.specs.tide_freeze.Books.{AreBooks, WereKept}
use Rattle.tide_heap.proofs.tide_freeze.BookLaws.{IsSwept-none, ends_in-part}
use Rattle.tide_report.specs.Ends.{CycleEnd, ends_in}
use Rattle.tide_heap.specs.tide_freeze.Freezing.{HasFrozen, HasVisited, SharesGreys}
use Rattle.tide_heap.specs.tide_freeze.Frozen.{IsFrozen}
use Rattle.tide_heap.specs.tide_freeze.declared.books.Books.{Books}
use Rattle.tide_heap.specs.tide_freeze.Participants.{LeavesParticipants}
use Rattle.tide_heap.specs.Rule.{SpanStays}
use Rattle.tide_heap.specs.Turns.{Freezes}
use Rattle.tide_heap.specs.tide_layout.Region.{word_count}
use Rattle.tide_heap.specs.tide_layout.declared.region.Region.TheVariants.{Stopped, Phase as PhaseRegion}
use Rattle.tide_heap.proofs.tide_core.machine_laws.freezes.Entering.{FrozenWave-of, FrozenWith-of}
use Rattle.tide_heap.specs.tide_core.machine.Frozen.{FrozenWith, MayOpen}
use Rattle.tide_heap.specs.tide_core.declared.machine.view.View.{View}
use Rattle.tide_heap.specs.tide_core.machine.points.Marks.{SpanIsLive}
use Rattle.tide_heap.specs.tide_layout.Limits.{IsWithinLimits}
use Rattle.tide_model.proofs.Histories.{IsLawful-nil, IsLawful-prefix}
use Rattle.tide_model.proofs.PeriodLaws.{Each-nil, ends_in_time-append}
use Rattle.tide_model.proofs.SinceLaws.{count-push}
use Rattle.tide_model.specs.Cycle.{begin_count}
use Rattle.tide_model.specs.Each.{Each}
use Rattle.tide_model.specs.Freeze.{is_marking_phase, marks_after, visits_entries}
use Rattle.tide_model.specs.State.{idle, marking}
use Rattle.tide_heap.specs.tide_words.forms.ColourWord.{cycle_of}
use Rattle.tide_model.specs.History.{is_begin, is_call_of, is_open, plain}
use Rattle.tide_model.specs.Lawful.{IsLawful}
use Rattle.tide_model.specs.Layout.{Layout}
use Rattle.tide_model.specs.Pace.{Pace}
use Rattle.tide_model.specs.Periods.{EndsInTime, next_run, open_count}
use Rattle.tide_model.specs.Prefix.{prefix_trans}
use Rattle.tide_model.specs.Refused.{ShapeLists}
use Rattle.tide_model.specs.Since.{is_end, is_of_freeze, is_of_part}
use Rattle.tide_model.specs.declared.entry.Entry.{Entry}
use Rattle.tide_model.specs.declared.entry.Entry.TheVariants.{Begin, Call, End, Open, Pause, Sweep, Taken, Visits}
use Rattle.tide_model.specs.declared.entry.Event.{Event}
use Rattle.tide_sched.proofs.RunLaws.{last_run-same}
use Rattle.tide_sched.specs.Paces.{last_run}
use Rattle.tide_table.proofs.Openings.{leads_to_opening}
use Rattle.tide_table.proofs.Spans.{marks_read, span_entered, span_none, span_of}
use Rattle.tide_table.specs.Started.{IsStarted}
use Rattle.tide_table.specs.Blacks.{BlacksStay, was_black_in}
use Rattle.tide_table.specs.Shown.{bare}
use Rattle.tide_table.proofs.Visits.{HasEntered, all_entered-blacks, all_entered-has}
use Rattle.tide_table.specs.Standing.{HasCollected, HasEnteredVisits, LeavesRest, MayEnterVisits, RunsPart, StandsStill}
use Rattle.tide_table.specs.VisitsTold.{AreTold, all_entered, unentered, visits_told}
use Rattle.tide_heap.specs.tide_words.heap.Heap.{heap_of}
use Rattle.tide_heap.specs.tide_words.marking.Colours.{is_black, is_marking}

-- what the entries of a part are not
no_open : (entry : Entry) → is_of_part entry ≡ true → not (is_open entry) ≡ true
no_open (Open number run) is = absurd (cc)
no_open _ is = refl

no_end : (entry : Entry) → is_of_part entry ≡ true → not (is_end entry) ≡ true
no_end (End cycle freed) is = absurd (cc)
no_end _ is = refl

no_begin : (entry : Entry) → is_of_part entry ≡ true → not (is_begin entry) ≡ true
no_begin (Begin cycle full) is = absurd (cc)
no_begin _ is = refl

-- so none of them is
none_of : (test : Entry → Bool) → ((entry : Entry) → is_of_part entry ≡ true → not (test entry) ≡ true) → (part : List Event) →
    list_all (λ e. is_of_part e.entry) part ≡ true → list_all (λ e. not (test e.entry)) part ≡ true
none_of test never [] all = refl
none_of test never (event ∷ part) all =
    let (here, later) = and_parts (is_of_part event.entry) (list_all (λ (e : Event). is_of_part e.entry) part) all in
    ap (λ (b : Bool). b && list_all (λ (e : Event). not (test e.entry)) part) (never event.entry here)
    ∙ none_of test never part later

pub no_opens : (part : List Event) → list_all (λ e. is_of_part e.entry) part ≡ true → list_all (λ e. not (is_open e.entry)) part ≡ true
no_opens = none_of is_open no_open

pub no_ends : (part : List Event) → list_all (λ e. is_of_part e.entry) part ≡ true → list_all (λ e. not (is_end e.entry)) part ≡ true
no_ends = none_of is_end no_end

-- so they are as many as before
count_none : (test : Entry → Bool) (history part : List Event) → list_all (λ e. not (test e.entry)) part ≡ true →
    count_by (λ (e : Event). test e.entry) (history ++ part)
    ≡ count_by (λ (e : Event). test e.entry) history
count_none test history [] none = ap (count_by (λ (e : Event). test e.entry)) (append-nil history)
count_none test history (event ∷ part) none =
    let (here, later) = and_parts (not (test event.entry)) (list_all (λ (e : Event). not (test e.entry)) part) none in
    let rest = count_none test (history ++ event ∷ []) part later in
    let joined = ap (count_by (λ (e : Event). test e.entry)) (append_assoc history (event ∷ []) part) in
    let counted = count-push test' history event in
    let zero_here = ap {B = ℕ} (λ (b : Bool). if b then 1 else 0) (isnt (test event.entry) here) in
    omega (arith, rest, joined, counted, zero_here)
  where
    test' : Event → Bool
    test' e = test e.entry

    isnt : (b : Bool) → not b ≡ true → b ≡ false
    isnt false is = refl
    isnt true is = absurd (cc)

pub open_count-part : (history part : List Event) → list_all (λ e. is_of_part e.entry) part ≡ true →
    open_count (history ++ part) ≡ open_count history
open_count-part history part all = count_none is_open history part (no_opens part all)

pub begin_count-part : (history part : List Event) → list_all (λ e. is_of_part e.entry) part ≡ true →
    begin_count (history ++ part) ≡ begin_count history
begin_count-part history part all = count_none is_begin history part (none_of is_begin no_begin part all)

-- the books go on over a part whose history is this
pub AreBooks-counted : (layout : Layout) (start part seen : List Event) (books now : Books) → seen ≡ start ++ part →
    AreBornIn (start ++ part) now.births → now.greys.cap ≡ books.greys.cap →
    AreBooks layout start books → AreBooks layout seen now
AreBooks-counted layout start part seen books now since born cap are =
    subst (λ (h : List Event). AreBooks layout h now) (sym since) (part_keeps_books layout start part books now born cap are)

-- Below, v is the collector's view while a part runs, and w once it is frozen.
pub StandsStill-froze : (layout : Layout) (shapes : ShapeLists) (v w : View) → RunsPart layout v →
    v.visits_told ≡ unentered v.visited → Freezes layout shapes v w → StandsStill layout shapes w
StandsStill-froze layout shapes v w runs counts f = subst (StandsStill layout shapes) (sym f.view) (record {
  limits = f.limits;
  frozen = refl;
  few = f.few;
  period = runs.period ∙ sym (ap open_count f.since ∙ open_count-part v.start f.part f.of_part);
  run = λ opened. runs.run ∙ sym (ap last_run f.since ∙ last_run-same v.start f.part (no_opens f.part f.of_part));
  long = f.long;
  wave = subst (FrozenWith layout shapes (heap_of layout f.words) v.seen) counts f.wave;
  ends = subst (Each (EndsInTime layout)) (sym f.since) (ends_in_time-append layout v.start f.part runs.ends (no_ends f.part f.of_part));
  stopped = λ index below. refl;
  blacks = λ opened. refl;
})

-- what was black in words that stood still is so
pub blacks_stay : (layout : Layout) (shapes : ShapeLists) (v : View) → StandsStill layout shapes v → BlacksStay layout v
blacks_stay layout shapes v still some cell within was = ap (λ (black : ℕ → Bool). black cell) (still.blacks some) ∙ was

-- the heap stands still at the start
pub StandsStill-started : (layout : Layout) (shapes : ShapeLists) (v : View) → IsStarted layout shapes v →
    IsWithinLimits layout → StandsStill layout shapes v
StandsStill-started layout shapes v started limits = record {
  limits = limits;
  frozen = started.frozen;
  few = (let none = started.births in omega (arith, none));
  period = started.period ∙ sym (ap open_count started.seen);
  run = λ later. absurd (let none = started.period in omega (arith, later, none));
  long = started.long;
  wave = subst (λ (x : List Event × ℕ). FrozenWith layout shapes (heap_of layout v.words) x.0 x.1)
      (λ i. (sym started.seen i, sym (ap unentered started.visited) i))
      (FrozenWith-of layout shapes (heap_of layout v.words) [] (IsLawful-nil layout shapes)
      (span_none layout [] refl (heap_of layout v.words)
      (λ marks. marks_read layout shapes (heap_of layout v.words) [] started.wave.marking.reads ∙ marks))
      started.swept (λ block within taken. IsSwept-none layout block) started.told started.wave);
  ends = subst (Each (EndsInTime layout)) (sym started.seen) (Each-nil (EndsInTime layout));
  stopped = started.stopped;
  blacks = λ later. absurd (let none = started.period in omega (arith, later, none));
}

-- an entry of a freeze is nobody's call
own_quiet : (who : ℕ) (entry : Entry) → is_of_freeze entry ≡ true → is_call_of who entry ≡ false
own_quiet who (Call by op reply) quiet = absurd (cc)
own_quiet who (Open number run) quiet = refl
own_quiet who (Begin cycle full) quiet = refl
own_quiet who (Pause visits) quiet = refl
own_quiet who (Visits by visits) quiet = refl
own_quiet who (End cycle freed) quiet = refl
own_quiet who (Taken block) quiet = absurd (cc)
own_quiet who (Sweep block) quiet = refl

-- what stood in the cycle that marks stays live over the entries of a freeze
span-quiet : (layout : Layout) (shapes : ShapeLists) (history events : List Event) →
    list_all (λ e. is_of_freeze e.entry) events ≡ true → IsLawful layout shapes (history ++ events) →
    SpanStays layout history → SpanStays layout (history ++ events)
span-quiet layout shapes history [] all lawful span =
    subst (SpanStays layout) (sym (append-nil history)) span
span-quiet layout shapes history (event ∷ events) all lawful span =
    let (here, later) = and_parts (is_of_freeze event.entry) (list_all (λ e. is_of_freeze e.entry) events) all in
    let joined : (history ++ event ∷ []) ++ events ≡ history ++ event ∷ events =
    append_assoc history (event ∷ []) events in
    let now : IsLawful layout shapes ((history ++ event ∷ []) ++ events) = subst (IsLawful layout shapes) (sym joined) lawful in
    subst (SpanStays layout) joined
    (span-quiet layout shapes (history ++ event ∷ []) events later now
    (span_entered layout shapes history event.took span event.entry (λ p. own_quiet p event.entry here)
    (IsLawful-prefix layout shapes (history ++ event ∷ []) ((history ++ event ∷ []) ++ events)
    (record { rest = events; joins = refl }) now)))

-- entries of a freeze open no part
quiet_open : (entry : Entry) → is_of_freeze entry ≡ true → not (is_open entry) ≡ true
quiet_open (Call by op reply) quiet = absurd (cc)
quiet_open (Open number run) quiet = absurd (cc)
quiet_open (Begin cycle full) quiet = refl
quiet_open (Pause visits) quiet = refl
quiet_open (Visits by visits) quiet = refl
quiet_open (End cycle freed) quiet = refl
quiet_open (Taken block) quiet = absurd (cc)
quiet_open (Sweep block) quiet = refl

quiet_opens : (events : List Event) → list_all (λ e. is_of_freeze e.entry) events ≡ true →
    list_all (λ e. not (is_open e.entry)) events ≡ true
quiet_opens [] all = refl
quiet_opens (event ∷ events) all =
    let (here, later) = and_parts (is_of_freeze event.entry) (list_all (λ (e : Event). is_of_freeze e.entry) events) all in
    ap (λ (b : Bool). b && list_all (λ (e : Event). not (is_open e.entry)) events) (quiet_open event.entry here)
    ∙ quiet_opens events later

-- visits end no cycle
visits_end_none : (visitor : ℕ) (visits : List ℕ) →
    list_all (λ (e : Event). not (is_end e.entry)) (map plain (visits_entries visitor visits)) ≡ true
visits_end_none visitor [] = refl
visits_end_none visitor (k ∷ visits) = visits_end_none (visitor + 1) visits

-- the books go on over visits
pub AreBooks-visited : (layout : Layout) (run : ℕ) (here after : List Event) (books : Books) →
    HasVisited layout run here after → AreBooks layout here books → AreBooks layout after books
AreBooks-visited layout run here after books has are = subst (λ (h : List Event). AreBooks layout h books) (sym has.entered) (record {
  births = record {
    in_cycle = are.births.in_cycle ∙ sym (born_begin-visits has.visits here 0);
    since_end = are.births.since_end ∙ sym (born_end-visits has.visits here 0);
  };
  room = are.room;
})

-- the phase word tells whether a cycle marks after the history
pub marks_still : (layout : Layout) (shapes : ShapeLists) (v : View) → StandsStill layout shapes v →
    marks_after layout v.seen ≡ is_marking (heap_of layout v.words)
marks_still layout shapes v still =
    ap is_marking_phase (sym still.wave.marking.reads.roots.phase)
    ∙ by_test (is_marking (heap_of layout v.words)) (cycle_of (heap_of layout v.words PhaseRegion 0))
  where
    by_test : (marks : Bool) (cycle : ℕ) → is_marking_phase (if marks then marking cycle else idle) ≡ marks
    by_test true cycle = refl
    by_test false cycle = refl

-- nothing is entered where no cycle marks
pub HasEnteredVisits-none : (layout : Layout) (shapes : ShapeLists) (v : View) → StandsStill layout shapes v →
    MayEnterVisits layout v → marks_after layout v.seen ≡ false → HasEnteredVisits layout shapes v v
HasEnteredVisits-none layout shapes v still may rests = record {
  visited = HasVisited-none layout v.run v.seen (λ marks. (let clash : true ≡ false = sym marks ∙ rests in absurd (cc)));
  told = λ marks. (let clash : true ≡ false = sym marks ∙ rests in absurd (cc));
  wave = subst (FrozenWith layout shapes (heap_of layout v.words) v.seen) (may.rests rests) still.wave;
  entered = may.rests rests;
  words = refl;
  rest = refl;
  blacks = still.blacks;
}

-- all is where one does
pub HasEnteredVisits-all : (layout : Layout) (shapes : ShapeLists) (v w : View) → StandsStill layout shapes v →
    AreTold layout v.run v.visited → marks_after layout v.seen ≡ true → w ≡ all_entered 0 layout.visitors v →
    FrozenWith layout shapes (heap_of layout w.words) w.seen 0 → unentered w.visited ≡ 0 →
    HasEnteredVisits layout shapes v w
HasEnteredVisits-all layout shapes v w still told marks is wave none =
    let numbers = visits_told v.visited 0 layout.visitors in
    let has : HasEntered v w numbers 0 =
    subst (λ (x : View). HasEntered v x numbers 0) (sym is) (all_entered-has 0 layout.visitors v) in
    record {
      visited = record {
        visits = numbers;
        entered = has.seen;
        marked = λ also. told.are;
        rests = λ none_marks. (let clash : true ≡ false = sym marks ∙ none_marks in absurd (cc));
      };
      told = λ also. record { rest = []; joins = append-nil _ ∙ sym has.seen };
      wave = wave;
      entered = none;
      words = has.words;
      rest = (λ i. record (has.rest i) { words = [] });
      blacks = λ opened. subst (λ (x : View). is_black (heap_of layout x.words) ≡ is_black (heap_of layout x.words_at_entry)) (sym is)
          (all_entered-blacks layout 0 layout.visitors v (still.blacks opened));
    }

-- Below, v is the collector's view of a heap that stands still, u with the visits entered, and w once the freeze code
-- ran.
module _ (layout : Layout) (shapes : ShapeLists) (v u : View) (still : StandsStill layout shapes v) (opened : 0 < v.period)
    (entered : HasEnteredVisits layout shapes v u) where
  long_then : length u.words ≡ word_count layout
  long_then = ap length entered.words ∙ still.long

  abbrev visits_before : List Event
  visits_before = map plain (visits_entries 0 entered.visited.visits)

  -- the freeze code may run over it
  pub IsFrozen-still : IsFrozen layout shapes u.words u.seen (was_black_in layout u)
  IsFrozen-still = record {
    all_words = long_then;
    wave = FrozenWave-of layout shapes (heap_of layout u.words) u.seen entered.wave;
    lawful = entered.wave.lawful;
    ends = subst (Each (EndsInTime layout)) (sym entered.visited.entered)
        (ends_in_time-append layout v.seen visits_before still.ends (visits_end_none 0 entered.visited.visits));
    blacks = sym (entered.blacks opened);
  }

  module _ (pace : Pace) (is_forced : Bool) (w : View) (run : ℕ) (same : bare w ≡ bare u)
      (frozen : IsFrozen layout shapes w.words w.seen (was_black_in layout w))
      (has : HasFrozen pace layout u.seen w.seen is_forced)
      (left : LeavesParticipants layout (heap_of layout u.words) (heap_of layout w.words))
      (shared : SharesGreys layout w.words w.seen) (is_run : run ≡ next_run pace layout w.seen) where
    quiet : list_all (λ (e : Event). is_of_freeze e.entry) has.events ≡ true
    quiet = HasFrozen-quiet pace layout u.seen w.seen is_forced has

    span : SpanIsLive layout (heap_of layout w.words) w.seen
    span = stays (heap_of layout w.words)
        (λ marks. marks_read layout shapes (heap_of layout w.words) w.seen frozen.wave.marking.reads ∙ marks)
      where
        was : SpanStays layout u.seen
        was = span_of layout (heap_of layout u.words) u.seen
            (λ marks. sym (marks_read layout shapes (heap_of layout u.words) u.seen entered.wave.marking.reads) ∙ marks)
            entered.wave.span

        stays : SpanStays layout w.seen
        stays = subst (SpanStays layout) (sym has.entered)
            (span-quiet layout shapes u.seen has.events quiet
            (subst (IsLawful layout shapes) has.entered frozen.lawful) was)

    rest : LeavesRest v w
    rest = (λ i. record (same i) { visited = [] }) ∙ entered.rest

    seen_runs : (f : List Event → ℕ) →
        ((history events : List Event) → list_all (λ (e : Event). is_of_freeze e.entry) events ≡ true → f (history ++ events) ≡ f history) →
        f w.seen ≡ f v.seen
    seen_runs f stays = ap f has.entered ∙ stays u.seen has.events quiet
        ∙ ap f entered.visited.entered ∙ stays v.seen visits_before (visits-quiet 0 entered.visited.visits)

    pub HasCollected-still : HasCollected layout shapes pace is_forced v w run
    HasCollected-still =
        let follows = leads_to_opening pace layout shapes u.words w.words u.seen w.seen 0 is_forced entered.wave frozen.wave
        frozen.lawful has left shared in
        let visited : w.visited ≡ u.visited = ap (λ (x : View). x.visited) same in
        let none : unentered w.visited ≡ 0 = ap unentered visited ∙ entered.entered in record {
          still = record {
            limits = still.limits;
            frozen = ap (λ (x : View). x.frozen) rest ∙ still.frozen;
            few = subst (λ (n : ℕ). n ≤ 83886080) (sym (ap (λ (x : View). x.births) rest)) still.few;
            period = ap (λ (x : View). x.period) rest ∙ still.period ∙ sym (seen_runs open_count open_count-quiet);
            run = λ some. ap (λ (x : View). x.run) rest ∙ still.run opened
                ∙ sym (seen_runs last_run (λ history events all. last_run-same history events (quiet_opens events all)));
            long = frozen.all_words;
            wave = subst (FrozenWith layout shapes (heap_of layout w.words) w.seen) (sym none)
                (FrozenWith-of layout shapes (heap_of layout w.words) w.seen frozen.lawful span follows.swept
                follows.clean follows.told frozen.wave);
            ends = frozen.ends;
            stopped = λ index below. left.stopped index below
                ∙ (λ i. heap_of layout (entered.words i) Stopped index) ∙ still.stopped index below
                ∙ sym (ap (λ (x : View). heap_of layout x.stood Stopped index) rest);
            blacks = λ some. sym frozen.blacks;
          };
          entered = none;
          rest = rest;
          freezes = visits_make_freeze pace layout (last_run v.seen) v.seen u.seen w.seen is_forced
              (subst (λ (n : ℕ). HasVisited layout n v.seen u.seen) (still.run opened) entered.visited) has;
          told = λ marks. prefix_trans _ u.seen w.seen (entered.told marks)
              (record { rest = has.events; joins = sym has.entered });
          next = is_run;
          may = subst (MayOpen layout (heap_of layout w.words)) (sym is_run) follows.may;
        }

-- no visits are the end of a cycle
pub WereKept-visited : (layout : Layout) (run : ℕ) (here visited after : List Event) (books now : Books) →
    HasVisited layout run here visited → WereKept layout visited after books now → WereKept layout here after books now
WereKept-visited layout run here visited after books now has kept = record {
  are = kept.are;
  pacing = kept.pacing;
  told = record {
    ended = kept.told.ended;
    lines = kept.told.lines;
    came = kept.told.came ∙ ap (λ (ends : List CycleEnd). ends ++ kept.told.ended)
        (ap (ends_in layout) has.entered ∙ ends_in-part layout here (map plain (visits_entries 0 has.visits))
        (visits_end_none 0 has.visits));
    added = kept.told.added;
    within = kept.told.within;
    told = kept.told.told;
    cells = kept.told.cells;
  };
}
