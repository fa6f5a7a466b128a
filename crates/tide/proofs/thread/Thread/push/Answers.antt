-- The stack is higher by one where the register was set.
use Rattle.std.proofs.Common.{ap, refl, ◌+◌}
use Rattle.tide.proofs.Passed.{same_stop}
use Rattle.tide.proofs.Pushing.{is_not_deep, pushes_nothing}
use Rattle.tide.specs.Threads.{Stack, calling_of, op_of}
use Rattle.tide.proofs.thread.Thread.push.Goals as goal

pub returns-in_err-set-clause-deep : goal.returns-in_err-set-clause-deep
returns-in_err-set-clause-deep g c =
    let why = c.in_err-set.field-0.0 in (
      λ is. absurd (is_not_deep (calling_of c.args.self.now) (calling_of c.set.new.self)
          (op_of c.args.self.now.top c.args.val) c.from_residual.result why
          (same_stop c.from_residual.result why c.from_residual.ensures.1) c.in_err-set.ensures.done is),
      λ is. absurd (c.if-at-self.false is),
    )

pub returns-in_err-set-clause-pushed : goal.returns-in_err-set-clause-pushed
returns-in_err-set-clause-pushed g c =
    let why = c.in_err-set.field-0.0 in
    pushes_nothing c.args.self.now c.set.new.self c.args.val c.from_residual.result why
    (same_stop c.from_residual.result why c.from_residual.ensures.1) c.in_err-set.ensures.done c.set.ensures.stack

pub returns-clause-pushed : goal.returns-clause-pushed
returns-clause-pushed g c =
    let same = c.set.ensures.stack in
    let s = c.args.self.now in (
      c.in_ok-set.ensures.done,
      refl,
      λ i. record {
        base = (ap (λ (s : Stack). s.base) same) i;
        top = s.top + 1;
        end = (ap (λ (s : Stack). s.end) same) i;
      },
    )
