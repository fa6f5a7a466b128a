use native.Mathlib.Omega.{arith}
use Rattle.std.proofs.Common.{ℕ, List, Some, ap, map, sym, ◌∙◌}
use Rattle.tide_grow_shape.specs.growers.Grown.{Fact, known_keys}
use Rattle.tide_grow_shape.proofs.growers_laws.KnownLaws.{known_none, known_some}
use Rattle.tide_grow_shape.proofs.transitions_laws.PlaceLaws.{place_of_within}
use Rattle.tide_grow_shape.proofs.growers.known.KnownShapes.keys.Goals as goal

pub index-known-requires : goal.index-known-requires
index-known-requires c =
    omega (arith, c.self.inside.shapes.ok.0, place_of_within (λ k. k.shape) c.self.inside.shapes.items c.args.shape c.in-Some.at (sym (c.in-Some.ensures (map (λ k. k.shape) c.self.inside.shapes.items) c.self.invariant)))

pub returns-in-Some : goal.returns-in-Some
returns-in-Some c = ap (λ (xs : List ℕ). Some xs) c.as_slice.ensures.value
    ∙ known_some c.self.inside.shapes.items c.args.shape c.in-Some.at c.index-known.result.now (sym (c.in-Some.ensures (map (λ k. k.shape) c.self.inside.shapes.items) c.self.invariant)) c.index-known.ensures
    ∙ ap (λ (fs : List Fact). known_keys fs c.args.shape) c.self.view_is

pub returns-in-None : goal.returns-in-None
returns-in-None c = known_none c.self.inside.shapes.items c.args.shape (sym (c.in-None.ensures (map (λ k. k.shape) c.self.inside.shapes.items) c.self.invariant))
    ∙ ap (λ (fs : List Fact). known_keys fs c.args.shape) c.self.view_is
