use native.Mathlib.Omega.{arith}
use Rattle.std.proofs.Common.{rules}
use Rattle.std.proofs.lemmas.Grind.{common_steps}
use Rattle.tide_grow_shape.proofs.growers_laws.LearnLaws.{past_all, past_more}
use Rattle.tide_grow_shape.proofs.growers.known.past.Goals as goal

pub loop-known-preserved : goal.loop-known-preserved
loop-known-preserved c = past_more c.args.shapes.now c.loop-known.known-index c.loop-known.past c.max-past.result c.known-item.result c.loop-known.invariant (omega arith) c.known-item.is
    (search rules) (search rules) (search rules) (let h = c.max-past.ensures in grind (arith, common_steps, h))

pub returns-clause-above : goal.returns-clause-above
returns-clause-above c = past_all c.args.shapes.now c.loop-known.past
    (λ k d within. c.loop-known.invariant.above k d (let end = c.loop-known.auto.known-index-end in let test = c.loop-known-test.false in omega (arith, within, end, test)) within)
