-- What the keeper knew it knows still.
use Rattle.std.proofs.Common.{rules}
use Rattle.tide_hands.proofs.keeper.KeeperSeat.await_note.Goals as goal

pub returns-in-Some-take_note-clause-free : goal.returns-in-Some-take_note-clause-free
returns-in-Some-take_note-clause-free g c = λ q e. c.take_note.ensures.free q (c.loop.invariant.7 q e)

pub loop-preserved : goal.loop-preserved
loop-preserved g c = (
  search rules,
  search rules,
  search rules,
  search rules,
  search rules,
  search rules,
  search rules,
  λ q e. c.take_note.ensures.free q (c.loop.invariant.7 q e),
)
