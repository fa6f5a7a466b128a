-- The part is open still, or again, and who rests is who it was.
use Rattle.std.proofs.Common.{subst}
use Rattle.tide.specs.tide_server.Turned.{HasTurned}
use Rattle.tide.specs.tide_server.declared.turning.Turn.{Turn}
use Rattle.tide.specs.tide_shape.Lists.{lists_of}
use Rattle.embed_standing.proofs.Rests.{may_wake}
use Rattle.embed_standing.proofs.resting.keep_beside.Goals as goal

pub loop-preserved : goal.loop-preserved
loop-preserved g c =
    let s = c.args.standing.now in
    let layout = s.heap.key.layout in
    let heap = s.heap.table.shared.table_id in
    let hands = s.hands.shared.table_id in
    record {
      stands = (subst (λ (t : Turn). HasTurned layout (lists_of s.heap.key.shapes) heap hands c.loop.keeper c.turn.new.self
          c.loop.report c.turn.new.report t) c.in-Opened.is c.in-Ok.ensures.turned).stands;
      may = may_wake layout heap hands c.loop.resting.member c.attend.new.self c.loop.invariant.may c.attend.ensures.of
          c.attend.ensures.same;
    }
