use native.Mathlib.Omega.{arith}
use Rattle.tide_grow_shape.proofs.growers_laws.NumberedLaws.{laid_all, laid_more}
use Rattle.tide_grow_shape.proofs.growers.grower.Grower.lists.Goals as goal

pub loop-shape-preserved : goal.loop-shape-preserved
loop-shape-preserved c = laid_more c.args.self.now c.loop-shape.lists.items c.put.new.lists.items c.in_ok-list.list (λ keys. keys.items) c.loop-shape.shape
    c.loop-shape.invariant.0 c.loop-shape.invariant.1 c.in_ok-put.ensures c.in_ok-list.ensures

pub returns-clause-all : goal.returns-clause-all
returns-clause-all c = λ shape keys knows. laid_all c.loop-shape.lists.items (λ keys. keys.items) c.loop-shape.shape c.past-shape-end.result shape c.loop-shape.invariant.0
    (let end = c.loop-shape.auto.shape-end in let test = c.loop-shape-test.false in omega (arith, end, test)) (c.past-shape-end.ensures.above shape keys knows)
