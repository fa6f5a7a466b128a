-- The heap is of the workload's layout and shapes, and has a mutator for each of its scripts.
use Rattle.std.proofs.Common.{◌≤◌, ◌∙◌, sym, ap, subst, length, map, All, List, Vec, Global}
use Rattle.std.proofs.lemmas.List.{length-map}
use Rattle.tide_model.specs.declared.op.Op.{Op}
use Rattle.tide_model.specs.Layout.{Layout}
use Rattle.tide_model.specs.Refused.{ShapeLists}
use Rattle.tide_periods.specs.Asking.{IsAskable}
use Rattle.tide_shape.specs.Lists.{lists_of}
use Rattle.tide_shape.specs.Shapes.{shapes_of_paths}
use Rattle.tide_run.specs.running.Runs.{AreScripts, layout_of_work}
use Rattle.tide_run.proofs.running_laws.RunLaws.{AreAskable, few_of}
use Rattle.tide_run.proofs.running.on_heap.heap_for.Goals as goal

pub room_for-room-requires-clause-few : goal.room_for-room-requires-clause-few
room_for-room-requires-clause-few c =
    subst (λ (own : List (Vec Op Global)). length own ≤ 16) (sym c.as_slice.ensures.value)
    (few_of c.args.load.now c.in_ok-scripts.scripts.items c.in_ok-scripts.ensures)

pub new-requires-clause-mutators : goal.new-requires-clause-mutators
new-requires-clause-mutators c =
    sym (length-map c.in_ok-scripts.scripts.items (λ (ops : Vec Op Global). ops.items)) ∙ ap length c.in_ok-scripts.ensures.are
    ∙ ap (λ (l : Layout). l.mutators) (sym c.layout_of.ensures)

pub new-requires-clause-askable : goal.new-requires-clause-askable
new-requires-clause-askable c =
    let work = c.args.load.now in
    let scripts = map (λ (ops : Vec Op Global). ops.items) c.in_ok-scripts.scripts.items in
    subst (λ (l : Layout). All (All (IsAskable l)) scripts) (sym c.layout_of.ensures)
    (AreAskable work (length work.scripts) c.args.visitors scripts c.in_ok-scripts.ensures.within)

pub returns-clause-setting : goal.returns-clause-setting
returns-clause-setting c =
    let shapes = c.in_ok-shapes.ensures ∙ ap shapes_of_paths c.paths.ensures.paths in
    c.in_ok-on.ensures.setting ∙ ap (λ (l : Layout). record { layout = l; shapes = lists_of c.in_ok-shapes.shapes }) c.layout_of.ensures
    ∙ ap (λ (s : ShapeLists). record { layout = layout_of_work c.args.load.now c.args.visitors; shapes = s }) shapes

pub returns-clause-scripts : goal.returns-clause-scripts
returns-clause-scripts c = subst (AreScripts c.args.load.now) (sym c.in_ok-on.ensures.scripts) c.in_ok-scripts.ensures

pub returns-clause-opens : goal.returns-clause-opens
returns-clause-opens c = c.in_ok-on.ensures.opens c.in_ok-on.on.books.pacing.calls
