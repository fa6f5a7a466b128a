-- Why a participant may play.
use Rattle.std.proofs.Common.{sym, subst}
use Rattle.tide_shape.specs.Lists.{lists_of}
use Rattle.tide_threads.specs.Playing.{MayPlay}
use Rattle.tide_threads.specs.declared.participant.Participant.{Participant}
use Rattle.tide_threads.proofs.playing.play_one.Goals as goal

pub play_part-requires-clause-may : goal.play_part-requires-clause-may
play_part-requires-clause-may g c κs within = subst (λ (x : Participant). MayPlay c.args.heap.now.table.shared.table_id
    c.args.heap.now.key.layout (lists_of c.args.heap.now.key.shapes) x) (sym c.deref_mut-participant.ensures.value) c.requires.may
