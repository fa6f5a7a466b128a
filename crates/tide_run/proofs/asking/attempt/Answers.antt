-- What the options ask for is what the words ask for.
use Rattle.std.proofs.Common.{subst, sym}
use Rattle.tide_run.specs.Asked.{AsksToRead}
use Rattle.tide_run.proofs.asking.attempt.Goals as goal

pub returns-clause-bad_input : goal.returns-clause-bad_input
returns-clause-bad_input g c = λ fault is.
    let why = c.attempt_with.ensures.bad_input fault is in
    (subst AsksToRead (sym c.in_ok-options.ensures.asked) why.0, why.1)
