-- The operand is brought before it is stored.
use Rattle.std.proofs.Common.{inl, inr}
use Rattle.tide.proofs.Passed.{same_stop}
use Rattle.tide.specs.Threads.{calling_of}
use Rattle.tide.proofs.thread.Thread.put.Goals as goal

pub returns-in_err-val-clause-stored : goal.returns-in_err-val-clause-stored
returns-in_err-val-clause-stored g c =
    let why = c.in_err-val.field-0.0 in
    inr (why, c.in_err-val.ensures.brought, same_stop c.from_residual.result why c.from_residual.ensures.1)

pub returns-clause-stored : goal.returns-clause-stored
returns-clause-stored g c =
    inl (calling_of c.register_of.new.self, c.in_ok-val.val, c.in_ok-val.ensures.brought, c.done.ensures.done)
