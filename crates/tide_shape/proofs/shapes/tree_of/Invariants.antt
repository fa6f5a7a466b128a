use Rattle.tide_shape.proofs.TableLaws.{HasPaths}
use Rattle.tide_shape.proofs.shapes.tree_of.Given as goal

abbrev pub invariant-loop-path : goal.invariant-loop-path
invariant-loop-path l = HasPaths l.paths l.path l.tree
