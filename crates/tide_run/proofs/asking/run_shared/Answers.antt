-- A snapshot is taken just where one is asked for.
use Rattle.std.proofs.Common.{Bool, None, Some, refl, subst, sym}
use Rattle.tide_shape.specs.Shapes.{shapes_of_paths}
use Rattle.tide_run.specs.Asked.{IsShownOf}
use Rattle.tide_run.proofs.asking.run_shared.Goals as goal

pub returns-in_ok-outcome-clause-shown : goal.returns-in_ok-outcome-clause-shown
returns-in_ok-outcome-clause-shown g c =
    let ran = c.in_ok-outcome in
    subst (λ (asked : Bool). IsShownOf asked (shapes_of_paths c.args.load.now.paths) ran.outcome (Some ran.snapshot)) (sym c.if-options.true) (ran.ensures.snapshot, ran.ensures.keys)

pub returns-in_ok-outcome-2-clause-shown : goal.returns-in_ok-outcome-2-clause-shown
returns-in_ok-outcome-2-clause-shown g c =
    subst (λ (asked : Bool). IsShownOf asked (shapes_of_paths c.args.load.now.paths) c.in_ok-outcome-2.outcome None) (sym c.if-options.false) refl
