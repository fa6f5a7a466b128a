-- What is answered is what its call is.
use Rattle.std.specs.Prelude.{Err, Ok}
use Rattle.tide.proofs.Passed.{same_stop}
use Rattle.tide.proofs.thread.Thread.drop_pair.Goals as goal

pub returns-in_err-call_on-clause-done : goal.returns-in_err-call_on-clause-done
returns-in_err-call_on-clause-done g c =
    let why = c.in_err-call_on.field-0.0 in
    (Err why, c.in_err-call_on.ensures.done, same_stop c.from_residual.result why c.from_residual.ensures.1)

pub returns-clause-done : goal.returns-clause-done
returns-clause-done g c = (Ok c.in_ok-call_on.field-0, c.in_ok-call_on.ensures.done, c.done.ensures)
