-- Where it is over the keeper has finished.
use Rattle.std.proofs.Common.{◌≡◌, subst, true}
use Rattle.std.specs.Prelude.{IfSome, Option}
use Rattle.tide.specs.tide_server.Turned.{IsFinished}
use Rattle.tide.specs.tide_shape.Lists.{lists_of}
use Rattle.embed_standing.specs.declared.playing.Kept.{Kept}
use Rattle.embed_standing.proofs.host.run.Goals as goal

pub finish-requires : goal.finish-requires
finish-requires g c =
    let heap = c.in-Some.opened.standing.heap in
    record {
      finished = subst (λ (found : Option Kept). IfSome found (λ kept. kept.is_over ≡ true →
          IsFinished heap.key.layout (lists_of heap.key.shapes) heap.table.shared.table_id kept.keeper))
          c.in-Some-played.is c.in_ok-played.ensures.finished
          c.if-not-is_over.false;
    }
