-- Each turn adds one more path.
use Rattle.tide_shape.proofs.TableLaws.{HasPaths-more}
use Rattle.tide_shape.proofs.shapes.tree_of.Goals as goal

pub loop-path-preserved : goal.loop-path-preserved
loop-path-preserved c =
    HasPaths-more c.args.paths.now c.loop-path.path c.path.result.now c.loop-path.tree c.add_path.new.self c.requires.sized c.path.ensures
    c.loop-path.invariant c.in_ok-add_path.ensures
