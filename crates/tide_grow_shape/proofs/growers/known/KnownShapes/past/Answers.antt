use Rattle.std.proofs.Common.{List, ap, map, subst, sym, ◌∙◌}
use Rattle.std.specs.Prelude.{Contains}
use Rattle.tide_grow_shape.specs.growers.Grown.{Fact}
use Rattle.tide_grow_shape.specs.growers.Known.{fact_of}
use Rattle.tide_grow_shape.proofs.growers.known.KnownShapes.past.Goals as goal

pub returns-clause-above : goal.returns-clause-above
returns-clause-above c = λ f there. c.past.ensures.above f (subst (λ (fs : List Fact). Contains fs f) (sym (ap (map fact_of) c.as_slice.ensures.value ∙ c.self.view_is)) there)

pub returns-clause-lowest : goal.returns-clause-lowest
returns-clause-lowest c = λ bound above. c.past.ensures.lowest bound
    (λ f there. above f (subst (λ (fs : List Fact). Contains fs f) (ap (map fact_of) c.as_slice.ensures.value ∙ c.self.view_is) there))
