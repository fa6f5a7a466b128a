use native.Mathlib.Omega.{arith}
use Rattle.tide_grow_shape.proofs.growers_laws.TogetherLaws.{merges_each, merges_one}
use Rattle.tide_grow_shape.proofs.growers.settling.together.Goals as goal

pub loop-grower-preserved : goal.loop-grower-preserved
loop-grower-preserved c = merges_one c.args.table.now c.loop-grower.all c.merge.new.self c.args.growers.now c.loop-grower.grower-index c.grower-item.result
    c.loop-grower.invariant c.merge.ensures.own (omega arith) c.grower-item.is c.merge.ensures.kept c.in_ok-merge.ensures.merged c.merge.ensures.only

pub returns-clause-known : goal.returns-clause-known
returns-clause-known c = merges_each c.args.table.now c.loop-grower.all c.args.growers.now c.loop-grower.grower-index c.loop-grower.invariant (omega arith)
