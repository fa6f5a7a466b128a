use Rattle.tide_grow_shape.proofs.growers_laws.LearnLaws.{IsPast}
use Rattle.tide_grow_shape.proofs.growers.known.past.Given as goal

abbrev pub invariant-loop-known : goal.invariant-loop-known
invariant-loop-known l = IsPast l.shapes l.known-index l.past
