-- What asking for the workload says of a refusal holds of the whole.
use Rattle.std.proofs.Common.{rules}
use Rattle.tide_run.proofs.asking.attempt_with.Goals as goal

pub returns-in_err-load-clause-bad_input : goal.returns-in_err-load-clause-bad_input
returns-in_err-load-clause-bad_input g c = λ fault is. c.in_err-load.ensures.bad_input fault (search (rules, is))
