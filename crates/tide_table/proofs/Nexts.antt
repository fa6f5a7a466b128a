-- From a freeze to the next part, whose numbers these are.
use Rattle.std.proofs.Common.{ℕ, ◌≡◌, ◌+◌, ◌<◌, ◌^◌, refl, sym, ◌∙◌, ap, subst, arith, List, [], ◌∷◌, ◌++◌}
use Rattle.std.specs.Prelude.{Bool}
use Rattle.tide_heap.proofs.tide_freeze.BookLaws.{AddsEnds-same, AddsEnds-then}
use Rattle.tide_heap.proofs.tide_freeze.RunningLaws.{open_keeps_books}
use Rattle.tide_heap.specs.tide_freeze.Books.{AddsEnds, AreBooks, WereKept}
use Rattle.tide_heap.specs.tide_freeze.Freezing.{HasFrozenWhole}
use Rattle.tide_heap.specs.tide_freeze.declared.books.Books.{Books}
use Rattle.tide_heap.specs.Turns.{Freezes, noted, opened}
use Rattle.tide_heap.specs.tide_core.declared.machine.view.View.{View}
use Rattle.tide_model.proofs.Histories.{push_cases}
use Rattle.tide_model.proofs.PeriodLaws.{Each-nil, EndsInTime-other}
use Rattle.tide_model.proofs.SinceLaws.{count-push}
use Rattle.tide_model.specs.Cycle.{begin_count}
use Rattle.tide_model.specs.Each.{Each}
use Rattle.tide_model.specs.History.{is_begin, is_open, plain}
use Rattle.tide_model.specs.Layout.{Layout}
use Rattle.tide_model.specs.Pace.{Pace}
use Rattle.tide_model.specs.Periods.{EndsInTime, open_count}
use Rattle.tide_model.specs.Refused.{ShapeLists}
use Rattle.tide_model.specs.declared.entry.Entry.TheVariants.{Open}
use Rattle.tide_model.specs.declared.entry.Event.{Event}
use Rattle.tide_heap.proofs.tide_freeze.BookLaws.{ends_in-part}
use Rattle.tide_report.specs.Ends.{ends_in}
use Rattle.tide_report.specs.Reports.{Reported}
use Rattle.tide_sched.proofs.RunLaws.{last_run-opened}
use Rattle.tide_sched.specs.Paces.{last_run}
use Rattle.tide_table.proofs.Standing.{begin_count-part, no_ends}
use Rattle.tide_table.specs.Standing.{EntersTold, HasCollected, HasFrozenNext, HasOpenedNext, RunsPart, RunsWith}
use Rattle.tide_table.specs.Started.{IsStarted}

-- the part that was opened has its number and its run
pub RunsPart-opened : (layout : Layout) (run : ℕ) (v w : View) → w ≡ opened layout run v → v.period ≡ open_count v.seen →
    Each (EndsInTime layout) v.seen → RunsPart layout w
RunsPart-opened layout run v w is numbered ends = subst (RunsPart layout) (sym is) (record {
  running = refl;
  period =
      let counted = count-push (λ e. is_open e.entry) v.seen (plain (Open (v.period + 1) run)) in
      omega (arith, numbered, counted);
  run = sym (last_run-opened v.seen (v.period + 1) run);
  ends = push_cases (EndsInTime layout) v.seen (plain (Open (v.period + 1) run)) ends
      (EndsInTime-other layout v.seen (plain (Open (v.period + 1) run)) refl);
})

-- no cycle began where it was opened
pub begin_count-opened : (layout : Layout) (run : ℕ) (v w : View) → w ≡ opened layout run v →
    begin_count w.start ≡ begin_count v.seen
begin_count-opened layout run v w is =
    ap (λ (x : View). begin_count x.start) is
    ∙ (let counted = count-push (λ e. is_begin e.entry) v.seen (plain (Open (v.period + 1) run)) in omega (arith, counted))

-- what has been seen then is the history up to the opening
seen_opened : (layout : Layout) (run : ℕ) (v w : View) → w ≡ opened layout run v → w.seen ≡ w.start
seen_opened layout run v w is = ap (λ (x : View). x.seen) is ∙ sym (ap (λ (x : View). x.start) is)

-- the first part of a heap runs with its books, where v is the collector's view at the start of the heap
pub HasOpenedNext-first : (layout : Layout) (shapes : ShapeLists) (run : ℕ) (books : Books) (v w : View) →
    IsStarted layout shapes v → w ≡ opened layout run v → AreBooks layout [] books → HasOpenedNext layout books v w
HasOpenedNext-first layout shapes run books v w started is are = record {
  runs = record {
    runs = RunsPart-opened layout run v w is (started.period ∙ sym (ap open_count started.seen))
        (subst (Each (EndsInTime layout)) (sym started.seen) (Each-nil (EndsInTime layout)));
    few =
        let same = begin_count-opened layout run v w is in
        let none = ap begin_count started.seen in
        let first = ap (λ (x : View). x.period) is in
        omega (arith, same, none, first);
    numbered = (let first = ap (λ (x : View). x.period) is in let none = started.period in omega (arith, first, none));
    are = subst (λ (x : View). AreBooks layout x.start books) (sym is)
        (open_keeps_books layout v.seen (v.period + 1) run books
        (subst (λ (h : List Event). AreBooks layout h books) (sym started.seen) are));
  };
  period = ap (λ (x : View). x.period) is;
  notes = ap (λ (x : View). x.notes) is;
  visited = ap (λ (x : View). x.visited) is;
  done = ap (λ (x : View). x.done) is;
  gone = ap (λ (x : View). x.gone) is;
  seen = seen_opened layout run v w is;
}

-- it runs on while notes are taken in
pub RunsWith-noted : (layout : Layout) (books : Books) (v note : View) → RunsWith layout books v →
    RunsWith layout books (noted v note)
RunsWith-noted layout books v note runs = record {
  runs = record { running = runs.runs.running; period = runs.runs.period; run = runs.runs.run; ends = runs.runs.ends };
  few = runs.few;
  numbered = runs.numbered;
  are = runs.are;
}

-- Below, v is the view while a part runs, u once it is frozen, w once the freeze code ran, and x once the next part is
-- opened.
pub HasOpenedNext-by : (layout : Layout) (shapes : ShapeLists) (pace : Pace) (is_forced : Bool) (run : ℕ)
    (old counted books : Books) (v u w x : View) → RunsWith layout old v → Freezes layout shapes v u →
    HasCollected layout shapes pace is_forced u w run → WereKept layout u.seen w.seen counted books →
    x ≡ opened layout run w → w.period + 1 < 2 ^ 32 → HasOpenedNext layout books v x
HasOpenedNext-by layout shapes pace is_forced run old counted books v u w x runs froze did kept is numbered = record {
  runs = record {
    runs = RunsPart-opened layout run w x is did.still.period did.still.ends;
    few =
        let same = begin_count-opened layout run w x is in
        let more = did.freezes.cycles in
        let before = ap (λ (y : View). begin_count y.seen) froze.view ∙ ap begin_count froze.since
        ∙ begin_count-part v.start froze.part froze.of_part in
        let few = runs.few in
        omega (arith, same, more, before, few, later);
    numbered = subst (λ (y : View). y.period < 2 ^ 32) (sym is) numbered;
    are = subst (λ (y : View). AreBooks layout y.start books) (sym is)
        (open_keeps_books layout w.seen (w.period + 1) run books kept.are);
  };
  period = later;
  notes = ap (λ (y : View). y.notes) is;
  visited = ap (λ (y : View). y.visited) is;
  done = ap (λ (y : View). y.done) is;
  gone = ap (λ (y : View). y.gone) is ∙ ap (λ (y : View). y.gone) did.rest ∙ ap (λ (y : View). y.gone) froze.view;
  seen = seen_opened layout run w x is;
}
  where
    later : x.period ≡ v.period + 1
    later = ap (λ (y : View). y.period) is ∙ ap (λ (y : View). y.period + 1) did.rest ∙ ap (λ (y : View). y.period + 1) froze.view

-- the freeze did what the schedule asks for, and so many calls has the next part
pub HasFrozenNext-by : (layout : Layout) (shapes : ShapeLists) (pace : Pace) (is_forced : Bool) (run : ℕ) (v u w x : View) →
    Freezes layout shapes v u → HasCollected layout shapes pace is_forced u w run → x ≡ opened layout run w →
    HasFrozenNext pace layout is_forced v x
HasFrozenNext-by layout shapes pace is_forced run v u w x froze did is = record {
  frozen = w.seen;
  freezes = subst (λ (h : List Event). HasFrozenWhole pace layout (last_run h) h w.seen is_forced)
      (ap (λ (y : View). y.seen) froze.view) did.freezes;
  told = subst (λ (y : View). EntersTold layout y w.seen) froze.view did.told;
  opened = ap (λ (y : View). y.start) is
      ∙ (λ i. w.seen ++ plain (Open (sym (ap (λ (y : View). y.period) is) i) (did.next i)) ∷ []);
}

-- books in which births alone were counted, and which were kept then, were kept since before
pub WereKept-counted : (layout : Layout) (history : List Event) (old counted books : Books) →
    counted ≡ record old { births = counted.births } → WereKept layout history history counted books →
    WereKept layout history history old books
WereKept-counted layout history old counted books others kept = record {
  are = kept.are;
  pacing = kept.pacing ∙ ap (λ (b : Books). b.pacing) others;
  told = subst (λ (b : Books). AddsEnds layout history history b.report books.report) others kept.told;
}

-- no cycle ends in a running part: what a report has of the ends since it was frozen, it has since it was opened
AddsEnds-frozen : (layout : Layout) (shapes : ShapeLists) (after : List Event) (report longer : Reported) (v u : View) →
    Freezes layout shapes v u → AddsEnds layout u.seen after report longer → AddsEnds layout v.start after report longer
AddsEnds-frozen layout shapes after report longer v u froze told =
    AddsEnds-then layout v.start u.seen after report report longer
    (AddsEnds-same layout v.start u.seen report report
    (ap (λ (y : View). ends_in layout y.seen) froze.view
    ∙ ap (ends_in layout) froze.since
    ∙ ends_in-part layout v.start froze.part (no_ends froze.part froze.of_part)) refl refl)
    told

-- books in which the births of a part that was frozen were counted, and which were kept then, were kept since the part
-- was opened
pub WereKept-frozen : (layout : Layout) (shapes : ShapeLists) (old counted books : Books) (v u w : View) →
    Freezes layout shapes v u → counted ≡ record old { births = counted.births } →
    WereKept layout u.seen w.seen counted books → WereKept layout v.start w.seen old books
WereKept-frozen layout shapes old counted books v u w froze others kept = record {
  are = kept.are;
  pacing = kept.pacing ∙ ap (λ (b : Books). b.pacing) others;
  told = AddsEnds-frozen layout shapes w.seen old.report books.report v u froze
      (subst (λ (b : Books). AddsEnds layout u.seen w.seen b.report books.report) others kept.told);
}

-- and the report has just the ends that came
pub AddsEnds-next : (layout : Layout) (shapes : ShapeLists) (run : ℕ) (report longer : Reported) (v u w x : View) →
    Freezes layout shapes v u → AddsEnds layout u.seen w.seen report longer → x ≡ opened layout run w →
    AddsEnds layout v.start x.start report longer
AddsEnds-next layout shapes run report longer v u w x froze told is =
    AddsEnds-frozen layout shapes x.start report longer v u froze
    (AddsEnds-then layout u.seen w.seen x.start report longer longer told
    (AddsEnds-same layout w.seen x.start longer longer
    (ap (λ (y : View). ends_in layout y.start) is
    ∙ ends_in-part layout w.seen (plain (Open (w.period + 1) run) ∷ []) refl) refl refl))
