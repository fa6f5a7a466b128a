-- Why the register may be stored, and what is left then.
use Rattle.std.proofs.Common.{◌∙◌}
use Rattle.tide_mutator.proofs.owed_laws.Paying.{may_count, may_pay, mutator_still, paid_by, runs_still}
use Rattle.tide_mutator.proofs.owed.registers.pay.Goals as goal

pub store_register-requires-clause-may : goal.store_register-requires-clause-may
store_register-requires-clause-may g c =
    let h = c.args.heap.now in record {
      own = c.requires.own;
      runs = c.requires.owing.runs;
      may = may_pay h.key.layout (g.S.HeapShapes.lists h.key.shapes) c.args.pass.now.seat.me.0 c.args.dst c.args.value
          c.requires.owing c.val_word.result c.val_word.ensures;
    }

pub store_call-requires-clause-mutator : goal.store_call-requires-clause-mutator
store_call-requires-clause-mutator g c =
    let h = c.args.heap.now in
    let step = c.store_register.ensures.step in
    mutator_still h.key.layout (g.S.HeapShapes.lists h.key.shapes) c.args.pass.now.seat.me.0 c.args.dst c.args.value
    c.requires.owing c.store_register.new.self.seat.me.0 c.val_word.result (step.0, step.1.follows)

pub store_call-requires-clause-may : goal.store_call-requires-clause-may
store_call-requires-clause-may g c =
    let h = c.args.heap.now in
    let step = c.store_register.ensures.step in record {
      own = step.1.table ∙ c.requires.own;
      runs = runs_still h.key.layout (g.S.HeapShapes.lists h.key.shapes) c.args.pass.now.seat.me.0 c.args.dst
          c.args.value c.requires.owing c.store_register.new.self.seat.me.0 c.val_word.result (step.0, step.1.follows);
      may = may_count h.key.layout (g.S.HeapShapes.lists h.key.shapes) c.args.pass.now.seat.me.0 c.args.dst c.args.value
          c.requires.owing c.store_register.new.self.seat.me.0 c.val_word.result (step.0, step.1.follows) c.args.call_number
          c.requires.counts;
    }

pub returns-clause-paid : goal.returns-clause-paid
returns-clause-paid g c =
    let h = c.args.heap.now in
    let tell = c.store_call.ensures.step in
    let step = c.store_register.ensures.step in
    paid_by h.key.layout (g.S.HeapShapes.lists h.key.shapes) c.args.pass.now.seat.me.0 c.args.dst c.args.value
    c.requires.owing c.store_register.new.self.seat.me.0 c.val_word.result (step.0, step.1.follows) c.args.call_number
    c.store_call.new.self.seat.me.0 (tell.0, tell.1.follows)
