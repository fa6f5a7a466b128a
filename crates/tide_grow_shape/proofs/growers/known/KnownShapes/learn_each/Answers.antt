use Rattle.std.proofs.Common.{List, subst, sym}
use Rattle.std.specs.Prelude.{Contains}
use Rattle.tide_grow_shape.specs.growers.Grown.{Fact}
use Rattle.tide_grow_shape.proofs.growers.known.KnownShapes.learn_each.Goals as goal

pub returns-in_err-learn-clause-kept : goal.returns-in_err-learn-clause-kept
returns-in_err-learn-clause-kept c = λ f there. subst (λ (fs : List Fact). Contains fs f) (sym c.in_err-learn.ensures.err) (c.loop-known.invariant.kept f there)
