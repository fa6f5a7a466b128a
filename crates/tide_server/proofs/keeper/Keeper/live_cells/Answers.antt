-- Counting leaves the keeper finished.
use Rattle.std.proofs.Common.{◌∙◌, ap, subst, sym}
use Rattle.tide_posts.specs.Schedule.{IsLegalWhere}
use Rattle.tide_posts.specs.tide_heap.Parties.{In}
use Rattle.tide_posts.specs.tide_heap.tide_core.declared.machine.view.View.{View}
use Rattle.tide_sched.specs.Paces.{pace_of}
use Rattle.tide_table.specs.Standing.{StandsStill}
use Rattle.tide_table.specs.tide_statistics.Sums.{HasSummed}
use Rattle.tide_server.proofs.keeper.Keeper.live_cells.Goals as goal

pub returns-clause-finished : goal.returns-clause-finished
returns-clause-finished g c =
    let layout = c.args.standing.now.heap.key.layout in
    let shapes = g.S.HeapShapes.lists c.args.standing.now.heap.key.shapes in
    let k = c.args.self.now in
    let was = c.requires.finished in
    let same = sym c.live_by_class.ensures.same in
    record {
      table = c.live_by_class.ensures.own ∙ was.table;
      frozen = ap (λ (v : View). v.frozen) c.live_by_class.ensures.same ∙ was.frozen;
      still = subst (StandsStill layout shapes) same was.still;
      summed = subst (λ (v : View). HasSummed v.seen k.sums) same was.summed;
      gone = λ i below. subst (λ (v : View). In i v.gone) same (was.gone i below);
      stops = was.stops;
      legal = subst (λ (v : View). IsLegalWhere (pace_of k.books.pacing) layout shapes was.stops v.seen) same was.legal;
      is_stopped = was.is_stopped;
    }
