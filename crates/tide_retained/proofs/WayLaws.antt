-- The way to a cell that was found is a path to it, and a shortest one.
use Rattle.std.proofs.Common.{ℕ, zero, suc, ◌≡◌, ◌+◌, ◌<◌, List, [], ◌∷◌, ◌++◌, length, Option, Some, refl, sym, ap, subst, arith}
use Rattle.std.specs.Prelude.{Contains}
use Rattle.tide_model.specs.Graph.{Graph, IsRoot, IsWithin, claimed, graph_of, in_handle, in_register}
use Rattle.tide_model.specs.Layout.{Layout}
use Rattle.tide_model.specs.State.{State}
use Rattle.tide_retained.specs.declared.contents.Contents.{Contents}
use Rattle.tide_retained.specs.declared.root.Root.{Root}
use Rattle.tide_retained.specs.declared.root.Root.TheVariants.{Register, Claim, Strong}
use Rattle.tide_retained.specs.declared.search.Found.{Found}
use Rattle.tide_retained.specs.Contents.{graph_held}
use Rattle.tide_retained.specs.Holding.{IsSnapshotOf, rooted}
use Rattle.tide_retained.specs.Path.{Holds, IsDistance, IsShortestPath, IsStep, Leads, Reaches, at_root, by_step as by_one_step, on, there}
use Rattle.tide_retained.specs.Searching.{FindsAll, IsPlaced, by_root, by_step, found_in}
use Rattle.tide_retained.specs.Trail.{above, parent_from, parent_in, trail}
use Rattle.tide_retained.proofs.TrailLaws.{trail-length}
use Rattle.tide_retained.proofs.GraphLaws.{held_within, step_within}

-- one more step at the end
leads_on : (graph : Graph) (source last cell : ℕ) (cells : List ℕ) → Leads graph source cells last → IsStep graph last cell → Leads graph source (cells ++ cell ∷ []) cell
leads_on graph source last cell cells there step = on cell step there
leads_on graph source last cell cells (on {cells = rest} next first later) step = on next first (leads_on graph next last cell rest later step)

leads_within : (one other : Graph) → IsWithin one other → (source last : ℕ) (cells : List ℕ) → Leads one source cells last → Leads other source cells last
leads_within one other within source last cells there = there
leads_within one other within source last cells (on {cells = rest} next first later) =
    on next (step_within one other source next within first) (leads_within one other within next last rest later)

-- what steps lead to is reached by as many
leads_reaches : (graph : Graph) (n source last : ℕ) (cells : List ℕ) → Reaches graph n source → Leads graph source cells last → Reaches graph (n + length cells) last
leads_reaches graph n source last cells reaches there = subst (λ (k : ℕ). Reaches graph k source) (omega arith) reaches
leads_reaches graph n source last cells reaches (on {cells = rest} next first later) =
    subst (λ (k : ℕ). Reaches graph k last) (let more : suc n + length rest ≡ n + suc (length rest) = omega arith in more)
    (leads_reaches graph (suc n) next last rest (by_one_step source reaches first) later)

holds_root : (state : State) (root : Root) (cell : ℕ) → Holds state root cell → IsRoot state cell
holds_root state (Register who register) cell (active, is) = in_register who register active is
holds_root state (Claim who) cell at = claimed who at
holds_root state (Strong handle) cell is = in_handle handle is

module _ (contents : Contents) (found : List (Option Found)) (placed : (cell : ℕ) (place : Found) → found_in found cell ≡ Some place → IsPlaced contents found cell place) where
  -- the first cell on the way is held by the root
  rooted_top : (n cell : ℕ) (place : Found) → found_in found cell ≡ Some place → place.distance ≡ n → Contains contents.roots.items (rooted place.root (above found n cell))
  unfolding above
  rooted_top zero cell place at far = elim (placed cell place at) [
    | by_root none own held ↦ held
    | by_step before earlier further root step ↦ absurd (omega (arith, far, further))
  ]
  rooted_top (suc n) cell place at far = elim (placed cell place at) [
    | by_root none own held ↦ absurd (omega (arith, far, none))
    | by_step before earlier further root step ↦
        let rest = rooted_top n place.parent before earlier (omega (arith, far, further)) in
        let this : place.parent ≡ parent_in found cell = sym (ap (λ (o : Option Found). parent_from o cell) at) in
        subst (λ (c : ℕ). Contains contents.roots.items (rooted place.root (above found n c))) this
        (subst (λ (r : Root). Contains contents.roots.items (rooted r (above found n place.parent))) (sym root) rest)
  ]

  -- and steps lead along it
  leads_trail : (n cell : ℕ) (place : Found) → found_in found cell ≡ Some place → place.distance ≡ n → Leads (graph_held contents) (above found n cell) (trail found n cell) cell
  unfolding above trail
  leads_trail zero cell place at far = there
  leads_trail (suc n) cell place at far = elim (placed cell place at) [
    | by_root none own held ↦ absurd (omega (arith, far, none))
    | by_step before earlier further root step ↦
        let rest = leads_trail n place.parent before earlier (omega (arith, far, further)) in
        let this : place.parent ≡ parent_in found cell = sym (ap (λ (o : Option Found). parent_from o cell) at) in
        subst (λ (c : ℕ). Leads (graph_held contents) (above found n c) (trail found n c ++ cell ∷ []) cell) this
        (leads_on (graph_held contents) (above found n place.parent) place.parent cell (trail found n place.parent) rest step)
  ]

-- it is a shortest path
pub way_is_shortest : (layout : Layout) (state : State) (contents : Contents) (found : List (Option Found)) → IsSnapshotOf layout state contents → FindsAll contents found →
    (cell : ℕ) (place : Found) → cell < length found → found_in found cell ≡ Some place → IsDistance (graph_of state) cell place.distance →
    IsShortestPath state place.root (above found place.distance cell) (trail found place.distance cell) cell
way_is_shortest layout state contents found is all cell place within at distance = record {
  is_path = record {
    holds = (is.roots place.root (above found place.distance cell)).0 (rooted_top contents found all.placed place.distance cell place at refl);
    leads = leads_within (graph_held contents) (graph_of state) (held_within layout state contents is) (above found place.distance cell) cell (trail found place.distance cell)
        (leads_trail contents found all.placed place.distance cell place at refl);
  };
  least = λ from start along path.
      let reaches = leads_reaches (graph_of state) 0 start cell along (at_root (holds_root state from start path.holds)) path.leads in
      let least = distance.least (0 + length along) reaches in
      let counted = trail-length found place.distance cell in
      omega (arith, least, counted);
}
