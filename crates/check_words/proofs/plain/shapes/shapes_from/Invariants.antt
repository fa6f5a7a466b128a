-- What the loop over the declared paths keeps: there are few, and each has few keys.
use Rattle.std.proofs.Common.{◌≤◌, length}
use Rattle.std.specs.Prelude.{All}
use Rattle.tide_shape.specs.Shapes.{IsPath}
use Rattle.check_words.proofs.plain.shapes.shapes_from.Given as goal

abbrev pub invariant-loop-path : goal.invariant-loop-path
invariant-loop-path l = record {
  few : length l.paths ≤ 64;
  sized : All IsPath l.paths;
}
