use Rattle.tide_grow_shape.proofs.growers_laws.TogetherLaws.{MergesGrowers}
use Rattle.tide_grow_shape.proofs.growers.settling.together.Given as goal

abbrev pub invariant-loop-grower : goal.invariant-loop-grower
invariant-loop-grower l = MergesGrowers l.table l.all l.growers l.grower-index
