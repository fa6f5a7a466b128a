-- One more handle is emptied.
use Rattle.std.proofs.Common.{ℕ, ◌≡◌, ◌+◌, ◌∙◌, arith, refl, sym, ap, subst, inl, inr}
use Rattle.std.proofs.lemmas.Bool.Decides.{leb_tells}
use Rattle.tide_model.specs.History.{state_after}
use Rattle.tide_model.specs.Prefix.{prefix_refl}
use Rattle.tide_model.specs.declared.val.Val.{Val}
use Rattle.tide_model.specs.declared.val.Val.TheVariants.{Empty}
use Rattle.tide_mutator.specs.calls.Viewed.{view_of}
use Rattle.tide_weakref.proofs.CalledLaws.{stepped_none, stepped_seen, stepped_sets_then, stepped_then}
use Rattle.tide_weakref.proofs.ClosingLaws.{spare_before}
use Rattle.tide_weakref.proofs.EmptyingLaws.{emptied_here, emptied_still, kept_still}
use Rattle.tide_weakref.proofs.SettingLaws.{one_keeps, sets_since}
use Rattle.tide_weakref.proofs.StepLaws.{step_set}
use Rattle.tide_model.specs.declared.op.Op.TheVariants.{StrongSet}
use Rattle.tide_weakref.proofs.jobs.empty.Goals as goal

pub loop-place-init : goal.loop-place-init
loop-place-init g c = record {
  stepped = stepped_none c.args.mutator.now c.requires.running;
  registers = refl;
  sets = sets_since (view_of c.args.mutator.now);
  kept_jobs = λ jobs none kept. kept;
  emptied = λ jobs same few spare bare n below. absurd (omega (arith, below));
}

pub loop-place-preserved : goal.loop-place-preserved
loop-place-preserved g c =
    let layout = c.args.heap.now.key.layout in
    let shapes = g.S.ShapeTable.lists c.args.heap.now.key.shapes in
    let v = view_of c.args.mutator.now in
    let w = view_of c.loop-place.mutator in
    let u = view_of c.step.new.mutator in
    let invariant = c.loop-place.invariant in
    let step = c.step.ensures in
    let first = c.args.handles.first in
    let place = c.loop-place.place in
    let handle = first + place in
    let test = c.loop-place-test.true in
    record {
      stepped = stepped_then c.args.mutator.now c.loop-place.mutator c.step.new.mutator invariant.stepped step.stepped;
      registers = step_set layout shapes w u (StrongSet handle c.args.scratch) c.step.result step.stepped.who step.makes (λ o r. refl)
          ∙ invariant.registers;
      sets = stepped_sets_then c.args.mutator.now c.loop-place.mutator c.step.new.mutator invariant.stepped step.stepped invariant.sets
          (one_keeps layout shapes w u c.step.result handle c.args.scratch step.makes (omega arith, omega (arith, test)));
      kept_jobs = λ jobs none kept. kept_still layout shapes w u c.step.result step.stepped.who handle c.args.scratch step.makes jobs none
          (invariant.kept_jobs jobs none kept);
      emptied = λ jobs same few spare bare n below. (elim (leb_tells place n) [
        | inl past ↦
            let here : n ≡ place = omega (arith, below, past.1) in
            subst (λ (k : ℕ). (state_after layout u.seen).strong (first + k) ≡ Empty) (sym here)
            (emptied_here layout shapes w u c.step.result step.stepped.who handle c.args.scratch step.makes
            (ap (λ (f : ℕ → Val). f c.args.scratch) invariant.registers ∙ bare (invariant.stepped.own step.makes.were_own)))
        | inr short ↦
            let less = short.1 in
            emptied_still layout shapes w u c.step.result step.stepped.who handle c.args.scratch step.makes jobs (first + n)
            (λ e. (omega (arith, less, e)))
            (omega (arith, same), omega (arith, same, few, less, test))
            (spare_before v.who w.who jobs u.seen u.seen invariant.stepped.who (prefix_refl u.seen) spare)
            (invariant.emptied jobs same few
            (spare_before v.who v.who jobs w.seen u.seen refl
            (stepped_seen c.loop-place.mutator c.step.new.mutator step.stepped) spare) bare n less)
      ]);
    }

pub returns-clause-emptied : goal.returns-clause-emptied
returns-clause-emptied g c = λ jobs same few spare bare place below.
    c.loop-place.invariant.emptied jobs same few spare bare place (let over = c.loop-place-test.false in omega (arith, below, over))
