-- Some note isn't in yet.
use Rattle.std.proofs.Common.{rules}
use Rattle.embed_standing.proofs.playing.next_turn.Goals as goal

pub loop-preserved : goal.loop-preserved
loop-preserved g c = (c.try_turn.ensures.waits (search rules)).stands
