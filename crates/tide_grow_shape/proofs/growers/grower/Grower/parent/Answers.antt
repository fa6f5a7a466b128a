use Rattle.std.proofs.Common.{ℕ, ◌≡◌, List, [], subst}
use Rattle.tide_grow_shape.specs.growers.Grown.{Knowledge, Knows}
use Rattle.tide_grow_shape.specs.growers.Growing.{knowledge_of}
use Rattle.tide_grow_shape.specs.growers.Numbered.{IsParent}
use Rattle.tide_grow_shape.proofs.growers_laws.NumberedLaws.{is_parent, no_parent}
use Rattle.tide_grow_shape.proofs.growers.grower.Grower.parent.Goals as goal

pub returns-in-Some-clause-some : goal.returns-in-Some-clause-some
returns-in-Some-clause-some c = subst (λ (g : Knowledge). IsParent g c.args.shape c.in-Some.sight.now.parent c.in-Some.sight.now.key) c.self.view_is
    (is_parent (knowledge_of c.self.inside) c.self.inside.table.numbers c.self.inside.maker.sights c.self.invariant.stands c.args.shape c.in-Some.sight.now c.in-Some.ensures.some.0 c.in-Some.ensures.some.1)

pub returns-in-None-clause-none : goal.returns-in-None-clause-none
returns-in-None-clause-none c = subst (λ (g : Knowledge). (keys : List ℕ) → Knows g c.args.shape keys → keys ≡ []) c.self.view_is
    (no_parent (knowledge_of c.self.inside) c.self.inside.table.numbers c.self.inside.maker.sights c.self.invariant.stands c.args.shape c.in-None.ensures.none)
