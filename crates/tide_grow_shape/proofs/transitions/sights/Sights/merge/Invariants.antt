use Rattle.tide_grow_shape.specs.transitions.Cells.{name_of}
use Rattle.tide_grow_shape.proofs.transitions_laws.MergeLaws.{Merges}
use Rattle.tide_grow_shape.proofs.transitions.sights.Sights.merge.Given as goal

abbrev pub invariant-loop-sight : goal.invariant-loop-sight
invariant-loop-sight l = Merges (name_of l.cells) l.initial.self l.self l.others l.sight-index
