-- Why a mutator may begin, and has begun.
use Rattle.tide_mutator.specs.calls.Viewed.{view_of}
use Rattle.tide_threads.proofs.Making.{HasBegunPart-by}
use Rattle.tide_threads.proofs.calling.begin.Goals as goal

pub begin-requires : goal.begin-requires
begin-requires c = record {
  own = c.requires.own;
  of_heap = c.requires.of_heap;
  parked = c.requires.rests;
  stays = c.requires.stays;
  later = c.requires.period;
}

pub returns : goal.returns
returns c = record {
  own = c.begin.ensures.same.0;
  begun = HasBegunPart-by c.args.ticket.seat.me.0 (view_of c.args.mutator.now) (view_of c.begin.new.self) c.begin.ensures.begun c.requires.begun;
  told = c.begin.ensures.told;
  mine = c.begin.ensures.mine;
}
