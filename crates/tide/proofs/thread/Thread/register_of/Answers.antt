-- An operand that names no register is put into the one for operands.
use Rattle.std.proofs.Common.{ℕ, subst, sym}
use Rattle.std.specs.Prelude.{Err, Result}
use Rattle.tide.proofs.Operands.{brings, brings_nothing}
use Rattle.tide.proofs.Passed.{same_stop}
use Rattle.tide.specs.Threads.{HasBrought, HasDone, calling_of, op_of}
use Rattle.tide.specs.declared.stop.Stop.{Stop}
use Rattle.tide.proofs.thread.Thread.register_of.Goals as goal

pub returns-in_err-set : goal.returns-in_err-set
returns-in_err-set g c =
    let s = c.args.self.now in
    let old = calling_of s in
    let new = calling_of c.set.new.self in
    let why = c.in_err-set.field-0.0 in
    record {
      brought = subst (λ (r : Result ℕ Stop). HasBrought old new s.base c.args.val r)
          (sym (same_stop c.from_residual.result why c.from_residual.ensures.1))
          (brings_nothing old new s.base c.args.val why c.in_default.not-Reg
          (subst (λ (at : ℕ). HasDone old new (op_of at c.args.val) (Err why)) c.scratch-at.ensures
          c.in_err-set.ensures.done));
      stack = c.set.ensures.stack;
    }

pub returns : goal.returns
returns g c =
    let s = c.args.self.now in
    record {
      brought = brings (calling_of s) (calling_of c.set.new.self) s.base c.args.val c.scratch-at.result
          c.in_default.not-Reg c.scratch-at.ensures c.in_ok-set.ensures.done;
      stack = c.set.ensures.stack;
    }
