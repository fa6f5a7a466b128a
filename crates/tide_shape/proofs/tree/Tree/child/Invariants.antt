use Rattle.std.proofs.Common.{suc, length}
use Rattle.std.specs.Option.{option_map_or}
use Rattle.tide_shape.specs.Tree.{links_of}
use Rattle.tide_shape.proofs.WalkLaws.{IsAt}
use Rattle.tide_shape.proofs.tree.Tree.child.Given as goal

abbrev pub invariant-loop-at : goal.invariant-loop-at
invariant-loop-at l =
    IsAt (length l.self-inside.shapes.items) (links_of l.self-inside.shapes.items) l.shape l.key l.at

abbrev pub decreases-loop-at : goal.decreases-loop-at
decreases-loop-at l = option_map_or suc l.at 0
