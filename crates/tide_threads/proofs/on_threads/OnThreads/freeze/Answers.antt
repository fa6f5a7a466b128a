-- Why the heap may be collected, and stands after.
use Rattle.std.proofs.Common.{◌∙◌, refl, sym, ap, subst, arith}
use Rattle.std.proofs.lemmas.Result.{err_from_is_err_and}
use Rattle.tide_heap.proofs.tide_freeze.BookLaws.{longer_report_tells}
use Rattle.tide_heap.specs.tide_core.declared.machine.view.View.{View}
use Rattle.tide_heap.specs.tide_freeze.Books.{AreBooks}
use Rattle.tide_periods.specs.Recorded.{recorded_at}
use Rattle.tide_report.specs.Ends.{TellsEnds}
use Rattle.tide_shape.specs.Lists.{lists_of}
use Rattle.tide_table.specs.Standing.{StandsStill}
use Rattle.tide_threads.proofs.Freezes.{MayOpenPart-collected, RanFreeze-collected, StandsBy-collected}
use Rattle.tide_threads.specs.OnThreads.{pace_on, setting_in}
use Rattle.tide_threads.specs.Playing.{AllStandBy}
use Rattle.tide_threads.proofs.on_threads.OnThreads.freeze.Goals as goal

pub collect-requires : goal.collect-requires
collect-requires c =
    let stands = c.requires.stands in record {
      own = stands.of_heap;
      still = stands.still;
      opened = (let opened = c.requires.opened in let period = stands.still.period in omega (arith, opened, period));
      visits = c.requires.visits;
      books = stands.books;
      few = c.requires.room;
    }

pub returns-in_err-next : goal.returns-in_err-next
returns-in_err-next c =
    let failed = err_from_is_err_and c.from_residual.result c.from_residual.ensures.1 in
    let self = c.args.self.now in
    let stands = c.requires.stands in
    let e = c.in_err-next.ensures in
    let layout = self.heap.key.layout in
    let v = self.collector.seat.me.0 in
    let books = c.collect.new.books in
    let same = sym e.untouched in
    rw failed.1 (record {
      ran = tt;
      stands = record {
        of_heap = e.own ∙ stands.of_heap;
        still = subst (StandsStill layout (lists_of self.heap.key.shapes)) same stands.still;
        books = subst (λ (x : View). AreBooks layout x.seen books) same e.kept.are;
        told = subst (λ (x : View). TellsEnds layout x.seen books.report) same
            (longer_report_tells layout v.seen v.seen self.books.report books.report stands.told e.kept.told);
        all = subst (λ (x : View). AllStandBy self.heap.table.shared.table_id layout x self.participants.items) same stands.all;
        no_calls = stands.no_calls;
      };
      pacing = e.kept.pacing;
      cursors = refl;
      opens = tt;
      froze = tt;
      told = tt;
      same = refl;
      untouched = ap (λ (x : View). recorded_at (setting_in self) x.seen) e.untouched;
    })

pub returns : goal.returns
returns c =
    let self = c.args.self.now in
    let stands = c.requires.stands in
    let e = c.in_ok-next.ensures in
    let layout = self.heap.key.layout in
    let shapes = lists_of self.heap.key.shapes in
    let v = self.collector.seat.me.0 in
    let w = c.collect.new.self.seat.me.0 in
    let pace = pace_on self in
    let run = c.in_ok-next.next in
    record {
      ran = RanFreeze-collected layout shapes pace c.args.is_forced v w run e.collected c.requires.settled;
      stands = record {
        of_heap = e.own ∙ stands.of_heap;
        still = e.collected.still;
        books = e.books.are;
        told = longer_report_tells layout v.seen w.seen self.books.report c.collect.new.books.report stands.told e.books.told;
        all = record {
          one_each = stands.all.one_each;
          each = λ at x found. StandsBy-collected layout shapes pace c.args.is_forced v w run e.collected
              self.heap.table.shared.table_id at _ (stands.all.each at x found);
        };
        no_calls = stands.no_calls;
      };
      pacing = e.books.pacing;
      cursors = refl;
      opens = MayOpenPart-collected layout shapes pace c.args.is_forced v w run e.collected;
      froze = e.collected.freezes;
      told = e.collected.told;
      same = refl;
      untouched = tt;
    }
