-- What a run of a workload left is an outcome, and a run of the workload.
use Rattle.std.proofs.Common.{◌∙◌, refl, sym, ap, map}
use Rattle.tide_model.specs.Layout.{Layout}
use Rattle.tide_run.specs.running.Outcome.{history_of}
use Rattle.tide_run.specs.running.Runs.{Ran, pace_of_work, setting_of_work}
use Rattle.tide_run.proofs.running_laws.RunLaws.{IsOutcome-ran, IsRunOf-ran}
use Rattle.tide_run.proofs.running.finishing.outcome_of.Goals as goal

pub new-requires : goal.new-requires
new-requires c =
    let work = c.args.load.now in
    let ran = c.args.ran in
    let left = c.requires.left in
    IsOutcome-ran work c.layout_of.result (map (λ name. name.items) c.args.names.items) (setting_of_work work c.args.visitors) (pace_of_work work left.0) work.scripts
    ran.kept ran.report (map (λ own. own.items) ran.calls.items) ran.live c.args.log c.args.deferred left.1.has_run (sym c.layout_of.ensures) c.requires.names
    (ap (λ (l : Layout). l.mutators) (sym c.layout_of.ensures)) left.1.within c.requires.logged
    (λ none. c.requires.none_met (ap (λ (l : Layout). l.visitors) (sym c.layout_of.ensures) ∙ none))

pub returns-clause-run : goal.returns-clause-run
returns-clause-run c = λ trigger left.
    let work = c.args.load.now in
    let ran = c.args.ran in
    IsRunOf-ran work trigger c.args.visitors c.new.result (setting_of_work work c.args.visitors) (pace_of_work work trigger) work.scripts
    (history_of ran.kept) ran.report (map (λ own. own.items) ran.calls.items) ran.live left.has_run refl refl refl refl
    (ap (λ (r : Ran). r.layout) c.new.ensures ∙ c.layout_of.ensures) (ap (λ (r : Ran). r.keys) c.new.ensures ∙ c.requires.names)
    (ap (λ (r : Ran). r.history) c.new.ensures)

pub returns-clause-heap : goal.returns-clause-heap
returns-clause-heap c = ap (λ (r : Ran). r.heap) c.new.ensures

pub returns-clause-history : goal.returns-clause-history
returns-clause-history c = ap (λ (r : Ran). r.history) c.new.ensures
