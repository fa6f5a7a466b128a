-- One more registration is passed, or its target is gone.
use Rattle.std.proofs.Common.{ℕ, ◌≡◌, ◌+◌, ◌∙◌, arith, refl, sym, ap, subst, List, length, take_all}
use Rattle.std.specs.Prelude.{None, Some, slice_get, take}
use Rattle.tide_mutator.specs.calls.Viewed.{view_of}
use Rattle.tide_weakref.proofs.CalledLaws.{stepped_mine, stepped_none, stepped_sets_then, stepped_then}
use Rattle.tide_weakref.proofs.ClosingLaws.{same_but_then}
use Rattle.tide_weakref.proofs.ReadingLaws.{first_is_gone, passed_held, passed_other, tells_none, tells_some}
use Rattle.tide_weakref.proofs.SettingLaws.{sets_since}
use Rattle.tide_weakref.proofs.StepLaws.{held_now}
use Rattle.tide_weakref.specs.Delivered.{AllHeldCells}
use Rattle.tide_weakref.specs.Stepping.{WasLoaded}
use Rattle.tide_weakref.specs.declared.range.Range16.{Range16}
use Rattle.tide_weakref.specs.declared.weak.Weak.{Weak}
use Rattle.tide_weakref.proofs.finalizing.first_gone.Goals as goal

pub loop-place-init : goal.loop-place-init
loop-place-init g c = record {
  stepped = stepped_none c.args.mutator.now c.requires.running;
  stands = λ jobs held. held;
  others = λ r apart. refl;
  sets = sets_since (view_of c.args.mutator.now);
  held = λ jobs weak uses one held token has is. absurd (let below = has.1 in omega (arith, below));
}

pub loop-place-preserved : goal.loop-place-preserved
loop-place-preserved g c =
    let layout = c.args.heap.now.key.layout in
    let v = view_of c.args.mutator.now in
    let w = view_of c.loop-place.mutator in
    let u = view_of c.load.new.mutator in
    let before = c.loop-place.invariant in
    let one = c.used-one.result in
    let scratch = c.args.scratch in
    record {
      stepped = stepped_then c.args.mutator.now c.loop-place.mutator c.load.new.mutator before.stepped c.load.ensures.stepped;
      stands = λ jobs held. held_now layout u jobs (c.load.ensures.stands jobs (before.stands jobs held));
      others = same_but_then layout scratch v w u before.others c.load.ensures.others;
      sets = stepped_sets_then c.args.mutator.now c.loop-place.mutator c.load.new.mutator before.stepped c.load.ensures.stepped
          before.sets c.load.ensures.sets;
      held = λ jobs weak uses.
          passed_held layout v w u jobs c.loop-place.place scratch one before.stepped.who
          (stepped_mine c.args.mutator.now c.loop-place.mutator before.stepped)
          (stepped_mine c.loop-place.mutator c.load.new.mutator c.load.ensures.stepped)
          (ap (λ (us : List Weak). slice_get us c.loop-place.place) uses ∙ c.used-one.ensures.is) (before.held jobs weak uses)
          c.in-Some.field-0
          (subst (λ (n : ℕ). WasLoaded layout w u scratch n (Some c.in-Some.field-0))
          (sym (ap (λ (r : Range16). r.first + one.at) weak)) c.in-Some.ensures.read);
    }

-- a reference is passed
pub loop-place-preserved-then-is_none : goal.loop-place-preserved-then-is_none
loop-place-preserved-then-is_none g c =
    let before = c.loop-place.invariant in
    let one = c.used-one.result in
    record {
      stepped = before.stepped;
      stands = before.stands;
      others = before.others;
      sets = before.sets;
      held = λ jobs weak uses.
          passed_other (view_of c.args.mutator.now) (view_of c.loop-place.mutator) jobs c.loop-place.place one
          (ap (λ (us : List Weak). slice_get us c.loop-place.place) uses ∙ c.used-one.ensures.is)
          (tells_none c.held_of.result one.role c.is_none.result c.held_of.ensures c.is_none.ensures c.if-is_none.true)
          (before.held jobs weak uses);
    }

-- the first registration whose handle holds no cell
pub returns-in_default : goal.returns-in_default
returns-in_default g c =
    let layout = c.args.heap.now.key.layout in
    let v = view_of c.args.mutator.now in
    let w = view_of c.loop-place.mutator in
    let u = view_of c.load.new.mutator in
    let before = c.loop-place.invariant in
    let one = c.used-one.result in
    let scratch = c.args.scratch in
    let is = tells_some c.held_of.result one.role c.is_none.result c.held_of.ensures c.is_none.ensures c.if-is_none.false in
    record {
      stepped = stepped_then c.args.mutator.now c.loop-place.mutator c.load.new.mutator before.stepped c.load.ensures.stepped;
      stands = λ jobs held. held_now layout u jobs (c.load.ensures.stands jobs (before.stands jobs held));
      others = same_but_then layout scratch v w u before.others c.load.ensures.others;
      sets = stepped_sets_then c.args.mutator.now c.loop-place.mutator c.load.new.mutator before.stepped c.load.ensures.stepped
          before.sets c.load.ensures.sets;
      found = λ jobs weak uses held. (
        one,
        is.0,
        is.1,
        first_is_gone layout v w u jobs c.loop-place.place scratch one before.stepped.who
            (stepped_mine c.args.mutator.now c.loop-place.mutator before.stepped)
            (stepped_mine c.loop-place.mutator c.load.new.mutator c.load.ensures.stepped)
            (ap (λ (us : List Weak). slice_get us c.loop-place.place) uses ∙ c.used-one.ensures.is) (before.held jobs weak uses)
            is.0 is.1 is.2
            (subst (λ (n : ℕ). WasLoaded layout w u scratch n None)
            (sym (ap (λ (r : Range16). r.first + one.at) weak)) c.in_default.ensures.read)
            (c.load.ensures.stands jobs (before.stands jobs held)) (c.load.ensures.stepped.who ∙ before.stepped.who),
      );
    }

pub returns : goal.returns
returns g c =
    let before = c.loop-place.invariant in
    record {
      stepped = before.stepped;
      stands = before.stands;
      others = before.others;
      sets = before.sets;
      found = λ jobs weak uses held.
          let all : take c.loop-place.place jobs.uses ≡ jobs.uses =
          take_all c.loop-place.place jobs.uses (let over = c.loop-place-test.false in let count = c.count-place-end.ensures in
          let long = ap (λ (us : List Weak). length us) uses in omega (arith, over, count, long)) in
          subst (AllHeldCells (view_of c.args.mutator.now) (view_of c.loop-place.mutator) jobs) all (before.held jobs weak uses);
    }
