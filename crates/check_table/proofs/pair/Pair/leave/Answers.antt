-- Both run, and have made the calls that these come after.
use Rattle.std.proofs.Common.{sym, ◌∙◌, ap, arith, true, false}
use Rattle.check_table.proofs.Pairing.{is_ready, still_takes}
use Rattle.check_table.specs.callers.Working.{all_calls, put_calls}
use Rattle.check_table.proofs.pair.Pair.leave.Goals as goal

pub leave-requires-clause-ready : goal.leave-requires-clause-ready
leave-requires-clause-ready c =
    let p = c.args.self.now in
    let b = c.requires.begun in
    let v = p.one.seat.me.0 in
    is_ready p.heap.key.layout 0 p.collector.seat.me.0.period (put_calls v.who) false v p.small (omega arith) b.one (c.requires.calls.one ∙ ap put_calls (sym b.one.is)) c.requires.calls.is_left

pub leave-requires-2-clause-ready : goal.leave-requires-2-clause-ready
leave-requires-2-clause-ready c =
    let p = c.args.self.now in
    let b = c.requires.begun in
    let v = p.other.seat.me.0 in
    is_ready p.heap.key.layout 1 p.collector.seat.me.0.period (put_calls v.who) false v p.small (omega arith) b.other (c.requires.calls.other ∙ ap put_calls (sym b.other.is))
    (b.alike ∙ c.requires.calls.is_left)

pub returns-clause-begun : goal.returns-clause-begun
returns-clause-begun c =
    let p = c.args.self.now in
    let b = c.requires.begun in
    let layout = p.heap.key.layout in
    let period = p.collector.seat.me.0.period in
    record {
      part = b.part;
      notes = b.notes;
      gone = b.gone;
      one = still_takes layout 0 period (all_calls p.one.seat.me.0.who) true p.one.seat.me.0 c.leave.new.pass.seat.me.0
          c.leave.ensures.stays c.leave.ensures.ready b.one;
      other = still_takes layout 1 period (all_calls p.other.seat.me.0.who) true p.other.seat.me.0 c.leave-2.new.pass.seat.me.0
          c.leave-2.ensures.stays c.leave-2.ensures.ready b.other;
      alike = c.leave-2.ensures.ready.is_left ∙ sym c.leave.ensures.ready.is_left;
    }

pub returns-clause-calls : goal.returns-clause-calls
returns-clause-calls c = (let b = c.requires.begun in record {
  one = c.leave.ensures.ready.made ∙ ap all_calls b.one.is;
  other = c.leave-2.ensures.ready.made ∙ ap all_calls b.other.is;
  is_left = c.leave.ensures.ready.is_left;
})
