use native.Mathlib.Omega.{arith}
use Rattle.std.proofs.Common.{◌≡◌, ◌≢◌, List, map, subst, sym}
use Rattle.std.specs.Prelude.{All, Contains}
use Rattle.tide_grow_shape.specs.declared.transitions.sight.Sight.{Sight}
use Rattle.tide_grow_shape.proofs.transitions_laws.SightLaws.{child_is, child_none, child_within}
use Rattle.tide_grow_shape.proofs.transitions.sights.Sights.of_child.Goals as goal

pub index-requires : goal.index-requires
index-requires c =
    let items = c.self.inside.sights.items in
    omega (arith, c.self.inside.sights.ok.0, child_within items c.args.child c.in-Some.at (sym (c.in-Some.ensures (map (λ s. s.child) items) c.self.invariant.by_child)))

pub returns-in-Some-clause-some : goal.returns-in-Some-clause-some
returns-in-Some-clause-some c =
    let items = c.self.inside.sights.items in
    subst (λ (ss : List Sight). Contains ss c.index.result.now × (c.index.result.now.child ≡ c.args.child)) c.self.view_is
    (child_is items c.args.child c.in-Some.at c.index.result.now (sym (c.in-Some.ensures (map (λ s. s.child) items) c.self.invariant.by_child)) c.index.ensures)

pub returns-in-None-clause-none : goal.returns-in-None-clause-none
returns-in-None-clause-none c =
    let items = c.self.inside.sights.items in
    subst (λ (ss : List Sight). All (λ s. s.child ≢ c.args.child) ss) c.self.view_is
    (child_none items c.args.child (sym (c.in-None.ensures (map (λ s. s.child) items) c.self.invariant.by_child)))
