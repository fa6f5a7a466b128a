-- Which store runs, and with which trigger, the options tell.
use Rattle.std.proofs.Common.{◌≡◌, Bool, None, refl, subst, sym}
use Rattle.std.specs.Prelude.{Some, if◌then◌else◌}
use Rattle.tide_shape.specs.Shapes.{shapes_of_paths}
use Rattle.tide_run.specs.Asked.{IsShownOf}
use Rattle.tide_run.specs.Runs.{IsRunOf, setting_of_work}
use Rattle.tide_run.proofs.asking.run_asked.Goals as goal

pub returns-in_ok-outcome-clause-run : goal.returns-in_ok-outcome-clause-run
returns-in_ok-outcome-clause-run g c =
    let work = c.args.load.now in
    subst (λ (plain : Bool). IsRunOf work (if plain then 0 else work.settings.trigger) (if plain then 0 else c.args.options.visitors) c.in_ok-outcome.outcome) (sym c.if-options.true) c.in_ok-outcome.ensures.run

pub returns-in_ok-outcome-clause-heap : goal.returns-in_ok-outcome-clause-heap
returns-in_ok-outcome-clause-heap g c =
    subst (λ (plain : Bool). c.in_ok-outcome.outcome.heap
    ≡ (if plain then None else Some (setting_of_work c.args.load.now c.args.options.visitors))) (sym c.if-options.true) c.in_ok-outcome.ensures.own

pub returns-in_ok-outcome-clause-shown : goal.returns-in_ok-outcome-clause-shown
returns-in_ok-outcome-clause-shown g c =
    subst (λ (asked : Bool). IsShownOf asked (shapes_of_paths c.args.load.now.paths) c.in_ok-outcome.outcome None) (sym (c.requires.shared c.if-options.true)) refl

pub returns-in_ok-ran-clause-run : goal.returns-in_ok-ran-clause-run
returns-in_ok-ran-clause-run g c =
    let work = c.args.load.now in
    subst (λ (plain : Bool). IsRunOf work (if plain then 0 else work.settings.trigger) (if plain then 0 else c.args.options.visitors) c.in_ok-ran.ran.0) (sym c.if-options.false) c.in_ok-ran.ensures.run

pub returns-in_ok-ran-clause-heap : goal.returns-in_ok-ran-clause-heap
returns-in_ok-ran-clause-heap g c =
    subst (λ (plain : Bool). c.in_ok-ran.ran.0.heap
    ≡ (if plain then None else Some (setting_of_work c.args.load.now c.args.options.visitors))) (sym c.if-options.false) c.in_ok-ran.ensures.heap
