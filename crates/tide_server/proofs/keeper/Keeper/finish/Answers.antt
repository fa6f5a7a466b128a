-- The history that a finished keeper hands over, with who stopped early in which part.
use Rattle.std.proofs.Common.{◌∙◌, sym, subst}
use Rattle.tide_model.specs.Periods.{IsLegal}
use Rattle.tide_posts.proofs.Schedule.{legal_where_none}
use Rattle.tide_posts.specs.Schedule.{IsLegalWhere}
use Rattle.tide_sched.specs.Paces.{pace_of}
use Rattle.tide_server.proofs.keeper.Keeper.finish.Goals as goal

pub returns-clause-where_early : goal.returns-clause-where_early
returns-clause-where_early g c =
    let key = c.args.standing.heap.key in
    let finished = c.requires.finished in (
      finished.stops,
      finished.is_stopped,
      subst (IsLegalWhere (pace_of c.args.self.books.pacing) key.layout (g.S.HeapShapes.lists key.shapes) finished.stops)
          (sym c.close.ensures.history) finished.legal,
    )

pub returns-clause-legal : goal.returns-clause-legal
returns-clause-legal g c = λ nobody.
    let key = c.args.standing.heap.key in
    let finished = c.requires.finished in
    let pace = pace_of c.args.self.books.pacing in
    let shapes = g.S.HeapShapes.lists key.shapes in
    subst (IsLegal pace key.layout shapes) (sym c.close.ensures.history)
    ((legal_where_none pace key.layout shapes c.args.self.collector.seat.me.0.seen).1
    (finished.stops, sym finished.is_stopped ∙ nobody, finished.legal))
