-- Why the store of the call word makes the call.
use Rattle.std.proofs.Common.{refl}
use Rattle.tide_mutator.proofs.owed_laws.Refusing.{asked_by, may_ask}
use Rattle.tide_mutator.proofs.calls.registers.ask.Goals as goal

pub store_call-requires-clause-may : goal.store_call-requires-clause-may
store_call-requires-clause-may g c =
    let h = c.args.heap.now in record {
      own = c.requires.may.own;
      runs = c.requires.may.calling.runs;
      may = may_ask h.key.layout (g.S.HeapShapes.lists h.key.shapes) c.args.pass.now.seat.me.0 c.args.call.op
          c.requires.may.calling (c.requires.may.told refl) c.requires.may.planned c.args.call.number c.requires.may.counts;
    }

pub returns : goal.returns
returns g c = record {
  answered = record {
    same_pass = search;
    done =
        let h = c.args.heap.now in
        let tell = c.store_call.ensures.step in
        asked_by h.key.layout (g.S.HeapShapes.lists h.key.shapes) c.args.pass.now.seat.me.0 c.args.call.op
        c.requires.may.calling (c.requires.may.told refl) c.requires.may.planned c.args.call.number c.store_call.new.self.seat.me.0 (
          tell.0,
          tell.1.follows,
        );
  };
}
