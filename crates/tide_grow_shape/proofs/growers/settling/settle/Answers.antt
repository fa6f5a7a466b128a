use Rattle.tide_grow_shape.proofs.growers_laws.TogetherLaws.{above_all}
use Rattle.tide_grow_shape.proofs.growers.settling.settle.Goals as goal

pub returns-clause-last : goal.returns-clause-last
returns-clause-last c = λ bound some above.
    c.in_ok-numbered.ensures.last bound (above_all c.args.growers.now c.in_ok-all.all bound c.holds_together.ensures c.in_ok-all.ensures.only some above)
