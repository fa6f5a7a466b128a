-- The layout is that of the workload's settings and scripts.
use Rattle.std.proofs.Common.{ℕ, ◌∙◌, ap}
use Rattle.tide_workload.specs.Words.{Settings}
use Rattle.tide_run.specs.running.Runs.{layout_with}
use Rattle.tide_run.proofs.running.starting.layout_of.Goals as goal

pub returns : goal.returns
returns c =
    c.layout_with.ensures ∙ ap (λ (s : Settings). layout_with s c.mutators.result c.args.visitors) c.settings.ensures.value
    ∙ ap (λ (n : ℕ). layout_with c.args.load.now.settings n c.args.visitors) c.mutators.ensures.count
