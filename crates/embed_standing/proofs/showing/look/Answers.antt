-- Some note isn't in yet, and the report has the room that it had.
use Rattle.std.proofs.Common.{rules, subst, sym}
use Rattle.tide.specs.tide_report.Ends.{HasRoomForEnds}
use Rattle.tide.specs.tide_report.Reports.{Reported}
use Rattle.embed_standing.proofs.showing.look.Goals as goal

pub loop-preserved : goal.loop-preserved
loop-preserved g c = record {
  stands = (c.turn_and_snapshot.ensures.waits (search rules)).stands;
  ends = subst (λ (r : Reported). HasRoomForEnds c.args.standing.now.heap.key.layout r 2)
      (sym (c.turn_and_snapshot.ensures.untold (search rules))) c.loop.invariant.ends;
}
