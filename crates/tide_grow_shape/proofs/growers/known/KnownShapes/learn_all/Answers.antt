use Rattle.std.proofs.Common.{List, ap, map, subst, ◌∙◌, ◌++◌}
use Rattle.std.specs.Prelude.{Contains}
use Rattle.tide_grow_shape.specs.growers.Grown.{Fact}
use Rattle.tide_grow_shape.specs.growers.Known.{fact_of}
use Rattle.tide_grow_shape.proofs.growers.known.KnownShapes.learn_all.Goals as goal

pub returns-clause-among : goal.returns-clause-among
returns-clause-among c = λ f there. subst (λ (fs : List Fact). Contains (c.args.self.now ++ fs) f) (ap (map fact_of) c.as_slice.ensures.value ∙ c.other.view_is) (c.learn_each.ensures.among f there)
