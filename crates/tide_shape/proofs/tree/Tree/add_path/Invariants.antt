use Rattle.tide_shape.proofs.PathLaws.{HasAdded}
use Rattle.tide_shape.proofs.tree.Tree.add_path.Given as goal

abbrev pub invariant-loop-key : goal.invariant-loop-key
invariant-loop-key l = HasAdded l.initial.self l.self l.path l.key-index l.shape
