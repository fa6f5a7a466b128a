-- Why the numbers of the pass stay those of its view, and what the step tells.
use Rattle.std.proofs.Common.{refl}
use Rattle.tide_heap.proofs.steps_laws.Ties.{role_kept, are_kept, plain_of, works_of, some_follow, has_acted}
use Rattle.tide_heap.specs.steps.Steps.{kind_of}
use Rattle.tide_heap.proofs.steps.pass.Pass.make_step.Goals as goal

pub invariant_of-self : goal.invariant_of-self
invariant_of-self g c =
    let h = c.args.heap.now in
    let v = c.args.self.now.seat.me.0 in
    let u = c.act_as.new.seat.me.0 in
    let shapes = g.S.HeapShapes.lists h.key.shapes in
    let kind = kind_of h.key.layout c.args.step in
    let works = works_of kind c.requires.plain in
    let f = some_follow c.args.act h.key.layout shapes kind v c.act_as.result u c.act_as.ensures.step in record {
      member = role_kept h.key.layout shapes kind v u f.0 f.1 works c.args.self.now.member;
      tied = are_kept h.key.layout shapes kind v u f.0 f.1 works (plain_of kind c.requires.plain) c.args.self.now.numbers
          c.args.self.now.tied;
    }

pub act_as-requires : goal.act_as-requires
act_as-requires g c = record {
  own = c.requires.may.own;
  layout = refl;
  shapes = refl;
  role = c.args.self.now.member;
  may = record {
    works = works_of (kind_of c.args.heap.now.key.layout c.args.step) c.requires.plain;
    runs = c.requires.may.runs;
    stands = c.requires.stands;
    acts = c.requires.acts;
    may = c.requires.may.may;
  };
}

pub returns : goal.returns
returns g c = record {
  step = has_acted g.S.HeapShapes.lists c.args.act c.args.heap.now (kind_of c.args.heap.now.key.layout c.args.step) c.args.self.now c.act_as.result _
      c.act_as.ensures.same.0 c.act_as.ensures.same.1 c.act_as.ensures.step;
}
