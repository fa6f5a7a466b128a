use Rattle.tide_grow_shape.specs.transitions.Cells.{name_of}
use Rattle.tide_grow_shape.proofs.transitions_laws.WalkLaws.{Walks}
use Rattle.tide_grow_shape.proofs.transitions.sights.Sights.walk.Given as goal

abbrev pub invariant-loop : goal.invariant-loop
invariant-loop g l = Walks (name_of l.cells) l.initial.self l.self l.fn.sought.shape l.fn.sought.key l.next l.of l.mine
