-- Why the heap stands as it did once a snapshot is taken.
use Rattle.std.proofs.Common.{◌∙◌, refl, sym, ap, subst}
use Rattle.tide_heap.specs.tide_core.declared.machine.view.View.{View}
use Rattle.tide_periods.specs.Recorded.{recorded_at}
use Rattle.tide_shape.specs.Lists.{lists_of}
use Rattle.tide_threads.specs.OnThreads.{setting_in}
use Rattle.tide_threads.specs.Playing.{AllStandBy}
use Rattle.tide_heap.specs.tide_freeze.Books.{AreBooks}
use Rattle.tide_report.specs.Ends.{TellsEnds}
use Rattle.tide_table.specs.Standing.{StandsStill}
use Rattle.tide_threads.proofs.on_threads.OnThreads.snapshot.Goals as goal

pub snapshot_of-requires : goal.snapshot_of-requires
snapshot_of-requires c = record { own = c.requires.stands.of_heap; still = c.requires.stands.still }

pub returns : goal.returns
returns c =
    let self = c.args.self.now in
    let layout = self.heap.key.layout in
    let stands = c.requires.stands in
    let same = sym c.snapshot_of.ensures.same in
    record {
      snapshot = c.snapshot_of.ensures.snapshot;
      keys = c.snapshot_of.ensures.keys;
      same = ap (λ (v : View). recorded_at (setting_in self) v.seen) c.snapshot_of.ensures.same;
      cursors = refl;
      stands = record {
        of_heap = c.snapshot_of.ensures.own ∙ stands.of_heap;
        still = subst (StandsStill layout (lists_of self.heap.key.shapes)) same stands.still;
        books = subst (λ (v : View). AreBooks layout v.seen self.books) same stands.books;
        told = subst (λ (v : View). TellsEnds layout v.seen self.books.report) same stands.told;
        all = subst (λ (v : View). AllStandBy self.heap.table.shared.table_id layout v self.participants.items) same stands.all;
        no_calls = stands.no_calls;
      };
    }
