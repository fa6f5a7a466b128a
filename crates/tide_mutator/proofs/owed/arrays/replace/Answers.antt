-- Why each store of a growth may be made, in this order.
use Rattle.std.proofs.Common.{suc, ◌≡◌, ◌+◌, ◌-◌, ◌∙◌, refl, ap, subst, arith, rules}
use Rattle.tide_mutator.proofs.owed_laws.Replacing.{has_nuked, has_replaced, has_stored, may_nuke, may_pay, may_store_array, may_store_structure, paid}
use Rattle.std.specs.Prelude.{slice_index}
use Rattle.tide_mutator.specs.owed.Replacing.{OwesGrowth}
use Rattle.tide_mutator.proofs.owed.arrays.replace.Goals as goal

pub store_array-requires-clause-may : goal.store_array-requires-clause-may
store_array-requires-clause-may g c =
    let h = c.args.heap.now in
    let shapes = g.S.HeapShapes.lists h.key.shapes in
    let v = c.args.pass.now.seat.me.0 in
    let u = c.loop-place.pass.seat.me.0 in
    let test = c.loop-place-test.false in
    let none : c.loop-place.place ≡ 0 = omega (arith, test) in
    let owes = subst (OwesGrowth h.key.layout v u c.args.growth c.args.taken c.args.words.now) none
    c.loop-place.invariant.owes in
    record {
      own = c.nuke.ensures.step.1.table ∙ c.loop-place.invariant.same.0 ∙ c.requires.own;
      runs = (has_nuked h.key.layout shapes v u c.args.growth c.args.taken c.args.words.now owes _
          c.nuke.new.self.seat.me.0 (c.nuke.ensures.step.0, c.nuke.ensures.step.1.follows)).runs;
      may = may_store_array h.key.layout shapes v _ c.args.growth c.args.taken
          (has_nuked h.key.layout shapes v u c.args.growth c.args.taken c.args.words.now owes (c.args.growth.old + 1) _
          (search rules depth 1));
    }

pub loop-place-init : goal.loop-place-init
loop-place-init g c = record { same = search; most = omega arith; owes = c.requires.owes }

pub store_element-requires-clause-within : goal.store_element-requires-clause-within
store_element-requires-clause-within g c = record {
  array_within = c.requires.holds.array_within;
  element_within = (
      let wide = c.requires.holds.element_within in
      let most = c.loop-place.invariant.most in
      let test = c.loop-place-test.true in
      omega (arith, wide, most, test));
}

pub store_element-requires-clause-may : goal.store_element-requires-clause-may
store_element-requires-clause-may g c =
    let h = c.args.heap.now in
    let shapes = g.S.HeapShapes.lists h.key.shapes in
    let v = c.args.pass.now.seat.me.0 in
    let u = c.loop-place.pass.seat.me.0 in
    let end = c.loop-place.place in
    let most = c.loop-place.invariant.most in
    let test = c.loop-place-test.true in
    let next : end ≡ suc (end - 1) = omega (arith, test) in
    let owes = subst (OwesGrowth h.key.layout v u c.args.growth c.args.taken c.args.words.now) next
    c.loop-place.invariant.owes in record {
      own = c.loop-place.invariant.same.0 ∙ c.requires.own;
      runs = owes.holds.runs;
      may = may_pay h.key.layout shapes v u c.args.growth c.args.taken c.args.words.now (end - 1) owes c.requires.next
          c.requires.few (omega (arith, most, test)) c.requires.holds _
          (ap (slice_index c.args.words.now) c.from.ensures);
    }

pub loop-place-preserved : goal.loop-place-preserved
loop-place-preserved g c =
    let h = c.args.heap.now in
    let shapes = g.S.HeapShapes.lists h.key.shapes in
    let v = c.args.pass.now.seat.me.0 in
    let u = c.loop-place.pass.seat.me.0 in
    let w = c.store_element.new.self.seat.me.0 in
    let end = c.loop-place.place in
    let most = c.loop-place.invariant.most in
    let test = c.loop-place-test.true in
    let next : end ≡ suc (end - 1) = omega (arith, test) in
    let owes = subst (OwesGrowth h.key.layout v u c.args.growth c.args.taken c.args.words.now) next
    c.loop-place.invariant.owes in
    let step = c.store_element.ensures.step in record {
      same = (step.1.table ∙ c.loop-place.invariant.same.0, step.1.seat ∙ c.loop-place.invariant.same.1);
      most = omega (arith, most, test);
      owes = paid h.key.layout shapes v u c.args.growth c.args.taken c.args.words.now (end - 1) owes c.requires.next
          c.requires.few (omega (arith, most, test)) c.requires.holds _ w (step.0, step.1.follows);
    }

pub nuke-requires-clause-may : goal.nuke-requires-clause-may
nuke-requires-clause-may g c =
    let h = c.args.heap.now in
    let shapes = g.S.HeapShapes.lists h.key.shapes in
    let v = c.args.pass.now.seat.me.0 in
    let u = c.loop-place.pass.seat.me.0 in
    let test = c.loop-place-test.false in
    let none : c.loop-place.place ≡ 0 = omega (arith, test) in
    let owes = subst (OwesGrowth h.key.layout v u c.args.growth c.args.taken c.args.words.now) none
    c.loop-place.invariant.owes in record {
      own = c.loop-place.invariant.same.0 ∙ c.requires.own;
      runs = owes.holds.runs;
      may = may_nuke h.key.layout shapes v u c.args.growth c.args.taken c.args.words.now owes _ refl;
    }

pub store_structure-requires-clause-may : goal.store_structure-requires-clause-may
store_structure-requires-clause-may g c =
    let h = c.args.heap.now in
    let shapes = g.S.HeapShapes.lists h.key.shapes in
    let v = c.args.pass.now.seat.me.0 in
    let u = c.loop-place.pass.seat.me.0 in
    let w = c.nuke.new.self.seat.me.0 in
    let x = c.store_array.new.self.seat.me.0 in
    let test = c.loop-place-test.false in
    let none : c.loop-place.place ≡ 0 = omega (arith, test) in
    let owes = subst (OwesGrowth h.key.layout v u c.args.growth c.args.taken c.args.words.now) none
    c.loop-place.invariant.owes in
    let step = c.nuke.ensures.step in
    let nuked = has_nuked h.key.layout shapes v u c.args.growth c.args.taken c.args.words.now owes _ w
    (step.0, step.1.follows) in
    let then = c.store_array.ensures.step in
    let stored = has_stored h.key.layout shapes v w c.args.growth c.args.taken nuked x (then.0, then.1.follows) in
    record {
      own = then.1.table ∙ step.1.table ∙ c.loop-place.invariant.same.0 ∙ c.requires.own;
      runs = stored.runs;
      may = may_store_structure h.key.layout shapes v x c.args.growth c.args.taken stored;
    }

pub returns-clause-replaced : goal.returns-clause-replaced
returns-clause-replaced g c =
    let h = c.args.heap.now in
    let shapes = g.S.HeapShapes.lists h.key.shapes in
    let v = c.args.pass.now.seat.me.0 in
    let u = c.loop-place.pass.seat.me.0 in
    let w = c.nuke.new.self.seat.me.0 in
    let x = c.store_array.new.self.seat.me.0 in
    let test = c.loop-place-test.false in
    let none : c.loop-place.place ≡ 0 = omega (arith, test) in
    let owes = subst (OwesGrowth h.key.layout v u c.args.growth c.args.taken c.args.words.now) none
    c.loop-place.invariant.owes in
    let step = c.nuke.ensures.step in
    let nuked = has_nuked h.key.layout shapes v u c.args.growth c.args.taken c.args.words.now owes _ w
    (step.0, step.1.follows) in
    let then = c.store_array.ensures.step in
    let stored = has_stored h.key.layout shapes v w c.args.growth c.args.taken nuked x (then.0, then.1.follows) in
    let last = c.store_structure.ensures.step in
    has_replaced h.key.layout shapes v x c.args.growth c.args.taken stored c.store_structure.new.self.seat.me.0
    (last.0, last.1.follows)
