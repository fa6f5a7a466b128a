-- What a snapshot leaves as the freeze made it, and of which state it is.
use Rattle.std.proofs.Common.{sym, subst}
use Rattle.std.specs.Prelude.{IfOk}
use Rattle.tide_model.specs.History.{state_after}
use Rattle.tide_posts.specs.tide_heap.tide_core.declared.machine.view.View.{View}
use Rattle.tide_posts.specs.tide_heap.tide_freeze.Books.{AddsEnds, AreBooks}
use Rattle.tide_sched.specs.Paces.{pace_of}
use Rattle.tide_snapshot.specs.tide_retained.Holding.{IsSnapshotOf}
use Rattle.tide_table.specs.Standing.{HasCollected}
use Rattle.tide_table.specs.tide_statistics.Sums.{HasSummed}
use Rattle.tide_server.proofs.keeper.Keeper.freeze_and_look.Goals as goal

pub returns-clause-frozen : goal.returns-clause-frozen
returns-clause-frozen g c =
    let s = c.args.standing.now in
    let layout = s.heap.key.layout in
    let shapes = g.S.ShapeTable.lists s.heap.key.shapes in
    let froze = c.freeze-run.ensures.frozen in
    let books = c.freeze-run.new.self.books in
    let same = sym c.snapshot_of-snapshot.ensures.same in
    record {
      stopped = froze.stopped;
      freezes = froze.freezes;
      collected = subst (λ (w : View). HasCollected layout shapes (pace_of c.args.self.now.books.pacing) c.args.is_forced froze.stopped w
          c.freeze-run.result) same froze.collected;
      are = subst (λ (w : View). AreBooks layout w.seen books) same froze.are;
      summed = subst (λ (w : View). HasSummed w.seen c.freeze-run.new.self.sums) same froze.summed;
      told = subst (λ (w : View). AddsEnds layout froze.stopped.seen w.seen c.args.report.now c.freeze-run.new.report) same froze.told;
    }

pub returns-clause-snapshot : goal.returns-clause-snapshot
returns-clause-snapshot g c =
    let layout = c.args.standing.now.heap.key.layout in
    subst (λ (w : View). IfOk c.snapshot_of-snapshot.result (IsSnapshotOf layout (state_after layout w.seen)))
    (sym c.snapshot_of-snapshot.ensures.same) c.snapshot_of-snapshot.ensures.snapshot
