-- Why a heap's log tells of the cycles what the history says.
use Rattle.std.proofs.Common.{◌∙◌, ap}
use Rattle.std.specs.Prelude.{is_some}
use Rattle.tide_threads.specs.tide_statistics.Statistics.{statistics_in}
use Rattle.tide_run.specs.running.Runs.{Ran}
use Rattle.tide_run.proofs.running.outcome.Outcome.statistics.Goals as goal

pub returns : goal.returns
returns c = λ kept.
    c.cycles.ensures ∙ c.self.invariant.logged (ap (λ (ran : Ran). is_some ran.heap) c.self.view_is ∙ kept)
    ∙ ap (λ (ran : Ran). statistics_in ran.history) c.self.view_is
