-- Why no race was met without visitors.
use Rattle.std.proofs.Common.{◌∙◌, ap}
use Rattle.tide_run.specs.running.Runs.{Ran}
use Rattle.tide_run.proofs.running.outcome.Outcome.deferred.Goals as goal

pub returns : goal.returns
returns c = λ none. c.self.invariant.none_met (ap (λ (ran : Ran). ran.layout.visitors) c.self.view_is ∙ none)
