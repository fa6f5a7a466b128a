use Rattle.tide_grow_shape.proofs.growers_laws.LearnLaws.{Learns}
use Rattle.tide_grow_shape.proofs.growers.known.KnownShapes.learn_each.Given as goal

abbrev pub invariant-loop-known : goal.invariant-loop-known
invariant-loop-known l = Learns l.initial.self l.self l.shapes l.known-index
