-- Each turn adds one more beginning of the path.
use Rattle.tide_shape.proofs.PathLaws.{HasAdded-more, HasAdded-all}
use Rattle.tide_shape.proofs.tree.Tree.add_path.Goals as goal

pub loop-key-preserved : goal.loop-key-preserved
loop-key-preserved c =
    HasAdded-more c.args.self.now c.loop-key.self c.child_or_new.new.self c.args.path.now c.loop-key.key-index c.loop-key.shape c.in_ok-shape.shape
    c.loop-key-test.true c.loop-key.invariant c.in_ok-shape.ensures.shapes c.in_ok-shape.ensures.child

pub returns : goal.returns
returns c =
    HasAdded-all c.args.self.now c.loop-key.self c.args.path.now c.loop-key.key-index c.loop-key.shape c.loop-key-test.false c.loop-key.invariant
