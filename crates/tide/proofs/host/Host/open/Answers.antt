-- Where shapes were made nothing is refused.
use Rattle.tide.proofs.Refusals.{no_refusal}
use Rattle.tide.specs.Sizes.{refusal_of}
use Rattle.tide.proofs.host.Host.open.Goals as goal

pub returns-in_err-opened-clause-refused : goal.returns-in_err-opened-clause-refused
returns-in_err-opened-clause-refused c = λ why is.
    no_refusal (refusal_of c.args.sizes c.args.paths.now) why c.in_ok-shapes.ensures.taken is

pub returns-clause-refused : goal.returns-clause-refused
returns-clause-refused c = λ why is.
    no_refusal (refusal_of c.args.sizes c.args.paths.now) why c.in_ok-shapes.ensures.taken is
