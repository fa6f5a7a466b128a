use Rattle.tide_grow_shape.proofs.transitions_laws.MergeLaws.{Agrees}
use Rattle.tide_grow_shape.proofs.transitions.sights.Sights.agrees_with.Given as goal

abbrev pub invariant-loop-sight : goal.invariant-loop-sight
invariant-loop-sight l = Agrees l.self l.others l.sight-index
