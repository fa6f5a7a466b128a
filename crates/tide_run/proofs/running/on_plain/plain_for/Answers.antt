-- The plain store is of the workload's layout and shapes.
use Rattle.std.proofs.Common.{◌∙◌, ap, sym}
use Rattle.tide_layout.specs.Region.{block_count}
use Rattle.tide_model.specs.Layout.{Layout}
use Rattle.tide_model.specs.Refused.{ShapeLists}
use Rattle.tide_plain.specs.calls.Store.{shapes_of}
use Rattle.tide_shape.specs.Shapes.{shapes_of_paths}
use Rattle.tide_run.specs.running.Runs.{layout_of_work}
use Rattle.tide_run.proofs.running.on_plain.plain_for.Goals as goal

pub new-requires-2-clause-blocks : goal.new-requires-2-clause-blocks
new-requires-2-clause-blocks c = c.block_count.ensures.count ∙ ap block_count (sym c.in_ok-store.ensures.layout)

pub returns-clause-new : goal.returns-clause-new
returns-clause-new c =
    let work = c.args.load.now in
    let recorder = c.in_ok-recorder.ensures in
    let store = c.in_ok-store in
    let layout = store.ensures.layout ∙ c.layout_of-layout.ensures in
    let shapes = store.ensures.shapes ∙ c.in_ok-shapes.ensures ∙ ap shapes_of_paths c.paths.ensures.paths in
    record {
      settled = recorder.settled;
      nothing = recorder.nothing;
      setting = recorder.setting ∙ ap (λ (l : Layout). record { layout = l; shapes = shapes_of store.store }) layout
          ∙ ap (λ (s : ShapeLists). record { layout = layout_of_work work 0; shapes = s }) shapes;
    }
