-- The operand is brought before anything is claimed.
use Rattle.std.proofs.Common.{ℕ, ap, inl, inr, subst}
use Rattle.std.specs.Prelude.{Err, Ok}
use Rattle.tide.proofs.Passed.{same_stop}
use Rattle.tide.specs.Keyed.{SetsOrAdds, HasDoneUnderClaim}
use Rattle.tide.specs.Threads.{Stack, calling_of}
use Rattle.tide.proofs.thread.Thread.set_key.Goals as goal

pub returns-in_err-val-clause-stored : goal.returns-in_err-val-clause-stored
returns-in_err-val-clause-stored g c =
    let why = c.in_err-val.field-0.0 in
    inl (why, c.in_err-val.ensures.brought, same_stop c.from_residual.result why c.from_residual.ensures.1)

pub returns-in_err-set_or_add_on-clause-stored : goal.returns-in_err-set_or_add_on-clause-stored
returns-in_err-set_or_add_on-clause-stored g c =
    let why = c.in_err-set_or_add_on.field-0.0 in
    let val = c.in_ok-val.val in
    inr (
      calling_of c.register_of.new.self,
      val,
      c.in_ok-val.ensures.brought,
      (
        Err why,
        subst (λ (base : ℕ). HasDoneUnderClaim (SetsOrAdds c.args.src c.args.key val) (calling_of c.register_of.new.self)
            (calling_of c.set_or_add_on.new.self) base c.args.src (Err why)) (ap (λ (s : Stack). s.base) c.register_of.ensures.stack)
            c.in_err-set_or_add_on.ensures.done,
        same_stop c.from_residual-in_err-set_or_add_on.result why c.from_residual-in_err-set_or_add_on.ensures.1,
      ),
    )

pub returns-clause-stored : goal.returns-clause-stored
returns-clause-stored g c =
    let reply = c.in_ok-set_or_add_on.field-0 in
    let val = c.in_ok-val.val in
    inr (
      calling_of c.register_of.new.self,
      val,
      c.in_ok-val.ensures.brought,
      (
        Ok reply,
        subst (λ (base : ℕ). HasDoneUnderClaim (SetsOrAdds c.args.src c.args.key val) (calling_of c.register_of.new.self)
            (calling_of c.set_or_add_on.new.self) base c.args.src (Ok reply)) (ap (λ (s : Stack). s.base) c.register_of.ensures.stack)
            c.in_ok-set_or_add_on.ensures.done,
        c.done.ensures,
      ),
    )
