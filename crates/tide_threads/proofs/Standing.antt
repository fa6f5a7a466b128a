-- A heap stands still after a part was frozen.
use Rattle.std.proofs.Common.{ℕ, ◌≡◌, ◌+◌, ◌∙◌, sym, ap, subst, true, List, [], ◌∷◌, ◌++◌}
use Rattle.std.specs.Prelude.{if◌then◌else◌}
use Rattle.tide_heap.specs.Turns.{Freezes, open_entry, opened}
use Rattle.tide_heap.specs.tide_freeze.Books.{AreBooks}
use Rattle.tide_heap.specs.tide_core.declared.machine.view.View.{View}
use Rattle.tide_model.specs.Layout.{Layout}
use Rattle.tide_model.specs.Each.{Each}
use Rattle.tide_model.specs.Periods.{EndsInTime, open_count}
use Rattle.tide_model.specs.Refused.{ShapeLists}
use Rattle.tide_model.specs.declared.entry.Event.{Event}
use Rattle.tide_report.specs.Ends.{TellsEnds}
use Rattle.tide_sched.specs.Paces.{last_run}
use Rattle.tide_shape.specs.Lists.{lists_of}
use Rattle.tide_table.proofs.Nexts.{RunsPart-opened}
use Rattle.tide_table.proofs.Telling.{MayEnterVisits-froze}
use Rattle.tide_table.specs.Standing.{MayEnterVisits, RunsPart, StandsStill}
use Rattle.tide_table.specs.VisitsTold.{CountsTold, HaveTold, most_visits}
use Rattle.tide_table.specs.declared.collector.Collector.{Collector}
use Rattle.tide_threads.proofs.Taking.{TookNotes}
use Rattle.tide_threads.specs.OnThreads.{Stands}
use Rattle.tide_threads.specs.Playing.{AllStandBy}
use Rattle.tide_threads.specs.declared.on_threads.OnThreads.{OnThreads}

-- what the collector reads leaves all as it was
pub Stands-read : (o : OnThreads) (collector : Collector) → collector.seat.table_id ≡ o.collector.seat.table_id →
    collector.seat.me.0 ≡ o.collector.seat.me.0 → Stands o → Stands (record o { collector = collector })
Stands-read o collector own same stands =
    let layout = o.heap.key.layout in
    let seen = sym same in record {
      of_heap = own ∙ stands.of_heap;
      still = subst (StandsStill layout (lists_of o.heap.key.shapes)) seen stands.still;
      books = subst (λ (v : View). AreBooks layout v.seen o.books) seen stands.books;
      told = subst (λ (v : View). TellsEnds layout v.seen o.books.report) seen stands.told;
      all = subst (λ (v : View). AllStandBy o.heap.table.shared.table_id layout v o.participants.items) seen stands.all;
      no_calls = stands.no_calls;
    }

-- a part runs once it was opened, and while its notes are taken in
pub RunsPart-taken : (layout : Layout) (shapes : ShapeLists) (v0 v1 v2 : View) (run : ℕ) → StandsStill layout shapes v0 →
    v1 ≡ opened layout run v0 → TookNotes v1 v2 → RunsPart layout v2
RunsPart-taken layout shapes v0 v1 v2 run still is_opened taken =
    let runs = RunsPart-opened layout run v0 v1 is_opened still.period still.ends in record {
      running = taken.frozen ∙ runs.running;
      period = taken.period ∙ runs.period ∙ sym (ap open_count taken.start);
      run = taken.run ∙ runs.run ∙ sym (ap last_run taken.start);
      ends = subst (Each (EndsInTime layout))
          (sym taken.start) runs.ends;
    }

module _ (layout : Layout) (shapes : ShapeLists) (v0 v1 v2 v3 : View) (run : ℕ) (still : StandsStill layout shapes v0)
    (is_opened : v1 ≡ opened layout run v0) (taken : TookNotes v1 v2) (freezes : Freezes layout shapes v2 v3) where
  abbrev begun : List Event
  begun = v0.seen ++ open_entry run v0 ∷ []

  -- the history of the frozen heap is that up to the opening, and the calls
  pub seen_part : v3.seen ≡ begun ++ freezes.part
  seen_part = ap (λ (x : View). x.seen) freezes.view ∙ freezes.since
      ∙ ap (λ (h : List Event). h ++ freezes.part) (taken.start ∙ ap (λ (x : View). x.start) is_opened)

  pub begun_part : v2.start ≡ begun
  begun_part = taken.start ∙ ap (λ (x : View). x.start) is_opened

  pub period_part : v3.period ≡ v0.period + 1
  period_part = ap (λ (x : View). x.period) freezes.view ∙ taken.period ∙ ap (λ (x : View). x.period) is_opened

  -- what notes told of visits may be entered
  pub MayEnterVisits-part : StandsStill layout shapes v3 → HaveTold (most_visits v1) layout.visitors v2.visited →
      v2.done ≡ true → CountsTold v2 → MayEnterVisits layout v3
  MayEnterVisits-part stands told done counts =
      MayEnterVisits-froze layout shapes v2 v3 freezes stands (taken.frozen ∙ ap (λ (x : View). x.frozen) is_opened) counts
      (record {
        told = subst (λ (n : ℕ). HaveTold n layout.visitors v2.visited)
            (λ i. if (sym taken.marks i) then (sym taken.run i) else 0) told;
        done = λ visitors. done;
      })
