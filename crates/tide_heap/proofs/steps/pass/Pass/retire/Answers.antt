-- Why the numbers stay those of the view of a mutator that retires.
use Rattle.std.proofs.Common.{refl, Some}
use Rattle.tide_core.specs.machine.Kind.{Retire}
use Rattle.tide_model.specs.declared.op.Op.TheVariants as op
use Rattle.tide_heap.proofs.steps_laws.Ties.{role_kept, are_of}
use Rattle.tide_heap.proofs.steps.pass.Pass.retire.Goals as goal

pub invariant_of-self : goal.invariant_of-self
invariant_of-self g c =
    let h = c.args.heap.now in
    let v = c.args.self.now.seat.me.0 in
    let u = c.act_as.new.seat.me.0 in
    let shapes = g.S.HeapShapes.lists h.key.shapes in
    let f = c.act_as.ensures.step in record {
      member = role_kept h.key.layout shapes (Retire (Some op.Retire)) v u f.0 f.1 refl c.args.self.now.member;
      tied = are_of h.key.layout shapes (Retire (Some op.Retire)) v u f.0 f.1 refl c.args.self.now.numbers
          c.args.self.now.tied _ refl;
    }
