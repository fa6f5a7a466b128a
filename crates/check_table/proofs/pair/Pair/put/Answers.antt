-- Both run, and have made the calls that these come after.
use Rattle.std.proofs.Common.{sym, ◌∙◌, ap, arith, false, []}
use Rattle.check_table.proofs.Pairing.{is_ready, still_takes}
use Rattle.check_table.specs.callers.Working.{put_calls}
use Rattle.check_table.proofs.pair.Pair.put.Goals as goal

pub put-requires-clause-ready : goal.put-requires-clause-ready
put-requires-clause-ready c =
    let p = c.args.self.now in
    let b = c.requires.begun in
    let v = p.one.seat.me.0 in
    is_ready p.heap.key.layout 0 p.collector.seat.me.0.period [] false v p.small (omega arith) b.one c.requires.calls.one c.requires.calls.is_left

pub put-requires-2-clause-ready : goal.put-requires-2-clause-ready
put-requires-2-clause-ready c =
    let p = c.args.self.now in
    let b = c.requires.begun in
    let v = p.other.seat.me.0 in
    is_ready p.heap.key.layout 1 p.collector.seat.me.0.period [] false v p.small (omega arith) b.other c.requires.calls.other
    (b.alike ∙ c.requires.calls.is_left)

pub returns-clause-begun : goal.returns-clause-begun
returns-clause-begun c =
    let p = c.args.self.now in
    let b = c.requires.begun in
    let layout = p.heap.key.layout in
    let period = p.collector.seat.me.0.period in
    record {
      part = b.part;
      notes = b.notes;
      gone = b.gone;
      one = still_takes layout 0 period (put_calls p.one.seat.me.0.who) false p.one.seat.me.0 c.put.new.pass.seat.me.0
          c.put.ensures.stays c.put.ensures.ready b.one;
      other = still_takes layout 1 period (put_calls p.other.seat.me.0.who) false p.other.seat.me.0 c.put-2.new.pass.seat.me.0
          c.put-2.ensures.stays c.put-2.ensures.ready b.other;
      alike = c.put-2.ensures.ready.is_left ∙ sym c.put.ensures.ready.is_left;
    }

pub returns-clause-calls : goal.returns-clause-calls
returns-clause-calls c = (let b = c.requires.begun in record {
  one = c.put.ensures.ready.made ∙ ap put_calls b.one.is;
  other = c.put-2.ensures.ready.made ∙ ap put_calls b.other.is;
  is_left = c.put.ensures.ready.is_left;
})
