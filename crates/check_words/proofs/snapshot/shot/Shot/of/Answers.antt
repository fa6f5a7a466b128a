-- The shapes that the snapshot was taken with are those of the workload's paths.
use Rattle.std.proofs.Common.{ap, subst, ◌∙◌}
use Rattle.tide_model.specs.Refused.{ShapeLists}
use Rattle.tide_shape.specs.Shapes.{shapes_of_paths}
use Rattle.tide_retained.specs.Contents.{HasKeysOf}
use Rattle.check_words.proofs.snapshot.shot.Shot.of.Goals as goal

pub invariant_of-result : goal.invariant_of-result
invariant_of-result c =
    subst (λ (shapes : ShapeLists). HasKeysOf shapes c.in-Ok-take.snapshot) (c.in-Ok.ensures.shapes ∙ ap shapes_of_paths c.paths.ensures.paths) c.in-Ok-take.ensures.keys
