-- The operand is brought before anything is claimed.
use Rattle.std.proofs.Common.{ℕ, ap, inl, inr, subst}
use Rattle.std.specs.Prelude.{Err, Ok}
use Rattle.tide.proofs.Passed.{same_stop}
use Rattle.tide.specs.Keyed.{Calls, HasDoneUnderClaim}
use Rattle.tide.specs.Threads.{Stack, calling_of}
use Rattle.tide_server.specs.tide_model.declared.op.Op.TheVariants.{PairSet}
use Rattle.tide.proofs.thread.Thread.set_pair.Goals as goal

pub returns-in_err-val-clause-stored : goal.returns-in_err-val-clause-stored
returns-in_err-val-clause-stored g c =
    let why = c.in_err-val.field-0.0 in
    inl (why, c.in_err-val.ensures.brought, same_stop c.from_residual.result why c.from_residual.ensures.1)

pub returns-in_err-call_on-clause-stored : goal.returns-in_err-call_on-clause-stored
returns-in_err-call_on-clause-stored g c =
    let why = c.in_err-call_on.field-0.0 in
    let val = c.in_ok-val.val in
    inr (
      calling_of c.register_of.new.self,
      val,
      c.in_ok-val.ensures.brought,
      (
        Err why,
        subst (λ (base : ℕ). HasDoneUnderClaim (Calls (PairSet c.args.src c.args.key val)) (calling_of c.register_of.new.self)
            (calling_of c.call_on.new.self) base c.args.src (Err why)) (ap (λ (s : Stack). s.base) c.register_of.ensures.stack)
            c.in_err-call_on.ensures.done,
        same_stop c.from_residual-in_err-call_on.result why c.from_residual-in_err-call_on.ensures.1,
      ),
    )

pub returns-clause-stored : goal.returns-clause-stored
returns-clause-stored g c =
    let reply = c.in_ok-call_on.field-0 in
    let val = c.in_ok-val.val in
    inr (
      calling_of c.register_of.new.self,
      val,
      c.in_ok-val.ensures.brought,
      (
        Ok reply,
        subst (λ (base : ℕ). HasDoneUnderClaim (Calls (PairSet c.args.src c.args.key val)) (calling_of c.register_of.new.self)
            (calling_of c.call_on.new.self) base c.args.src (Ok reply)) (ap (λ (s : Stack). s.base) c.register_of.ensures.stack)
            c.in_ok-call_on.ensures.done,
        c.done.ensures,
      ),
    )
