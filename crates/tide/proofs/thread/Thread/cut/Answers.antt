-- Each round empties the register on top of the root stack.
use Rattle.std.proofs.Common.{ℕ, ◌≡◌, arith, ap, refl, suc, subst, sym, ◌∙◌, ◌+◌, ◌-◌}
use Rattle.std.specs.Prelude.{Result}
use Rattle.tide.proofs.Passed.{same_stop}
use Rattle.tide.specs.Stacks.{HasCut, HasEmptied, cut_to}
use Rattle.tide.specs.Threads.{Stack, calling_of}
use Rattle.tide.specs.declared.stop.Stop.{Stop}
use Rattle.tide.proofs.thread.Thread.cut.Goals as goal

pub loop-self-init : goal.loop-self-init
loop-self-init g c = record { count = 0; above = omega arith; all = omega arith; empties = refl; stack = refl }

pub returns-in_err-done : goal.returns-in_err-done
returns-in_err-done g c =
    let old = c.args.self.now in
    let mid = c.loop-self.self in
    let new = c.done.new.self in
    let kept = c.loop-self.invariant in
    let why = c.in_err-done.field-0.0 in
    let test = c.loop-self-test.true in
    let base = ap (λ (s : Stack). s.base) kept.stack in
    let all = kept.all in
    let next : mid.top ≡ mid.top - 1 + 1 = omega (arith, test) in
    record {
      cut = subst (λ (r : Result (Unit {0}) Stop). HasCut old new c.args.height r)
          (sym (same_stop c.from_residual.result why c.from_residual.ensures.1)) (record {
            at = mid.top - 1;
            count = kept.count;
            middle = calling_of mid;
            above = omega (arith, test, base);
            all = omega (arith, test, all);
            empties = subst (λ (first : ℕ). HasEmptied (calling_of old) (calling_of mid) first kept.count) next
                kept.empties;
            stops = c.in_err-done.ensures.done;
            stack = c.done.ensures.stack ∙ kept.stack
                ∙ ap (λ (top : ℕ). record { base = old.base; top = top; end = old.end }) next;
          });
    }

pub loop-self-preserved : goal.loop-self-preserved
loop-self-preserved g c =
    let old = c.args.self.now in
    let mid = c.loop-self.self in
    let new = c.done.new.self in
    let kept = c.loop-self.invariant in
    let test = c.loop-self-test.true in
    let all = kept.all in
    let same = c.done.ensures.stack ∙ kept.stack in
    let base = ap (λ (s : Stack). s.base) kept.stack in
    let next : mid.top ≡ mid.top - 1 + 1 = omega (arith, test) in
    record {
      count = suc kept.count;
      above = omega (arith, test, base);
      all = omega (arith, test, all);
      empties = (
        calling_of mid,
        subst (λ (first : ℕ). HasEmptied (calling_of old) (calling_of mid) first kept.count) next kept.empties,
        c.in_ok-done.ensures.done,
      );
      stack = λ i. record {
        base = (ap (λ (s : Stack). s.base) same) i;
        top = mid.top - 1;
        end = (ap (λ (s : Stack). s.end) same) i;
      };
    }

pub returns : goal.returns
returns g c =
    let old = c.args.self.now in
    let new = c.loop-self.self in
    let kept = c.loop-self.invariant in
    let test = c.loop-self-test.false in
    let base = ap (λ (s : Stack). s.base) kept.stack in
    let all = kept.all in
    let above = kept.above in
    let top : new.top ≡ cut_to old c.args.height = omega (arith, test, base, above, all) in
    record {
      cut = record {
        count = kept.count;
        all = omega (arith, top, all);
        empties = subst (λ (first : ℕ). HasEmptied (calling_of old) (calling_of new) first kept.count) top kept.empties;
        stack = kept.stack
            ∙ ap (λ (top : ℕ). record { base = old.base; top = top; end = old.end }) top;
      };
    }
