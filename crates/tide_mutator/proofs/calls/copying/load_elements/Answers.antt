-- Why the elements may be loaded, and what is known then.
use Rattle.std.proofs.Common.{◌∙◌, refl, sym, arith}
use Rattle.std.proofs.Math.ListN.{length-set}
use Rattle.std.proofs.lemmas.Grind.{get_or-set_at}
use Rattle.std.proofs.lemmas.List.{get_or-set_other}
use Rattle.tide_mutator.proofs.calls_laws.growth_laws.Reading.{knows_more, read_none, read_twice, ready_read}
use Rattle.tide_mutator.proofs.calls_laws.growth_laws.Taking.{element_known, element_read, may_load_element}
use Rattle.tide_mutator.proofs.calls.copying.load_elements.Goals as goal

pub returns-in_default-clause-read : goal.returns-in_default-clause-read
returns-in_default-clause-read g c = read_none c.args.pass.now.seat.me.0

pub returns-in_default-clause-knows : goal.returns-in_default-clause-knows
returns-in_default-clause-knows g c = λ source place from below. absurd (c.in_default.not-Some source from)

pub loop-place-init : goal.loop-place-init
loop-place-init g c = record {
  same = search;
  read = read_none c.args.pass.now.seat.me.0;
  whole = refl;
  knows = λ source place from below. absurd (omega (arith, below));
}

pub load_element-requires-clause-within : goal.load_element-requires-clause-within
load_element-requires-clause-within g c =
    c.requires.ready.has c.in-Some.array c.loop-place.place c.in-Some.is c.loop-place-test.true

pub load_element-requires-clause-may : goal.load_element-requires-clause-may
load_element-requires-clause-may g c =
    let h = c.args.heap.now in
    let shapes = g.S.HeapShapes.lists h.key.shapes in
    let v = c.args.pass.now.seat.me.0 in
    let u = c.loop-place.pass.seat.me.0 in
    let ready = ready_read v u c.loop-place.invariant.read h.key.layout c.args.op shapes c.args.growth c.requires.ready in
    record {
      own = c.loop-place.invariant.same.0 ∙ c.requires.own;
      runs = ready.calling.runs;
      may = may_load_element h.key.layout shapes u c.args.op c.args.growth ready c.in-Some.array c.loop-place.place
          c.in-Some.is c.loop-place-test.true;
    }

pub loop-place-preserved : goal.loop-place-preserved
loop-place-preserved g c =
    let h = c.args.heap.now in
    let shapes = g.S.HeapShapes.lists h.key.shapes in
    let v = c.args.pass.now.seat.me.0 in
    let u = c.loop-place.pass.seat.me.0 in
    let w = c.load_element.new.self.seat.me.0 in
    let words = c.loop-place.words in
    let at = c.from.result in
    let is_at = c.from.ensures in
    let below = c.loop-place-test.true in
    let few = c.requires.ready.may.few in
    let whole = c.loop-place.invariant.whole in
    let step = c.load_element.ensures.step in
    let ready = ready_read v u c.loop-place.invariant.read h.key.layout c.args.op shapes c.args.growth c.requires.ready in
    let read = element_read h.key.layout shapes u c.args.op c.args.growth ready c.in-Some.array c.loop-place.place
    c.in-Some.is below c.load_element.result w step.follows in
    record {
      same = (step.table ∙ c.loop-place.invariant.same.0, step.seat ∙ c.loop-place.invariant.same.1);
      read = read_twice v u w c.loop-place.invariant.read read;
      whole = length-set words at c.load_element.result ∙ whole;
      knows = knows_more h.key.layout u w c.args.growth.array c.in-Some.array words _ c.loop-place.place
          c.load_element.result c.in-Some.is read c.loop-place.invariant.knows
          (element_known h.key.layout shapes u c.args.op c.args.growth ready c.in-Some.array c.loop-place.place
          c.in-Some.is below c.load_element.result w step.follows)
          (get_or-set_at words at c.loop-place.place c.load_element.result 0 (sym is_at)
          (omega (arith, whole, is_at, below, few)))
          (λ other earlier. get_or-set_other words at other c.load_element.result 0
          (λ same. absurd (omega (arith, same, is_at, earlier))));
    }
