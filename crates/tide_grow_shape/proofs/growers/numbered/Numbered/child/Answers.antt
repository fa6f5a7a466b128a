use native.Mathlib.Omega.{arith}
use Rattle.std.proofs.Common.{ℕ, ap, subst, ◌∙◌}
use Rattle.std.specs.HashMap.{get}
use Rattle.std.specs.Prelude.{nat_eq}
use Rattle.tide_model.specs.Refused.{ShapeLists}
use Rattle.tide_grow_shape.specs.growers.Numbered.{IsNumbered}
use Rattle.tide_grow_shape.proofs.growers_laws.NumberedLaws.{child_added, child_missing}
use Rattle.tide_grow_shape.proofs.growers.numbered.Numbered.child.Goals as goal

pub returns-clause-added : goal.returns-clause-added
returns-clause-added c = child_added c.args.self.now c.self.inside.children (subst (λ (ls : ShapeLists). IsNumbered ls c.self.inside.children) c.self.view_is c.self.invariant)
    c.args.shape c.args.key c.as_parent-from.result c.requires c.as_parent-from.ensures.none c.as_parent-from.ensures.some (omega (arith, c.ranges.key.fits)) c.copied.result
    (c.copied.ensures ∙ c.get.ensures.value ∙ ap (λ (n : ℕ). get nat_eq c.self.inside.children n) c.pair_number.ensures)

pub returns-clause-none : goal.returns-clause-none
returns-clause-none c = child_missing c.args.self.now c.self.inside.children (subst (λ (ls : ShapeLists). IsNumbered ls c.self.inside.children) c.self.view_is c.self.invariant)
    c.args.shape c.args.key c.as_parent-from.result c.requires c.as_parent-from.ensures.none c.as_parent-from.ensures.some c.copied.result
    (c.copied.ensures ∙ c.get.ensures.value ∙ ap (λ (n : ℕ). get nat_eq c.self.inside.children n) c.pair_number.ensures)
