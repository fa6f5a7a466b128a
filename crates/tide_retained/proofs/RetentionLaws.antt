-- The paths that are kept are the shortest.
use Rattle.std.proofs.Common.{ℕ, ◌≡◌, ◌-◌, ◌<◌, ◌≤◌, true, List, length, Option, None, Some, refl, sym, ap, ◌∙◌, subst, inl, inr, arith, get_or}
use Rattle.std.specs.Prelude.{is_some, option_map}
use Rattle.std.proofs.lemmas.Bool.{cases_lt}
use Rattle.std.proofs.lemmas.List.{get_or_past}
use Rattle.tide_model.specs.Graph.{graph_of}
use Rattle.tide_model.specs.Layout.{Layout}
use Rattle.tide_model.specs.State.{State}
use Rattle.tide_retained.specs.declared.contents.Contents.{Contents}
use Rattle.tide_retained.specs.declared.search.Found.{Found}
use Rattle.tide_retained.specs.Contents.{graph_held, is_kept}
use Rattle.tide_retained.specs.Holding.{IsSnapshotOf}
use Rattle.tide_retained.specs.Path.{IsDistanceOf}
use Rattle.tide_retained.specs.Retention.{HasShortestPaths, IsPathOf, cells_on, path_from, path_to, way_on}
use Rattle.tide_retained.specs.Searching.{FindsAll, distance_in, found_in}
use Rattle.tide_retained.specs.Trail.{above, distance_of}
use Rattle.tide_retained.proofs.GraphLaws.{distance_within, held_within, state_within}
use Rattle.tide_retained.proofs.TrailLaws.{trail-length, way_at}
use Rattle.tide_retained.proofs.WayLaws.{way_is_shortest}

-- how far a cell was found is how far it is in the state
pub distance_is : (layout : Layout) (state : State) (contents : Contents) (found : List (Option Found)) → IsSnapshotOf layout state contents → FindsAll contents found →
    (cell : ℕ) (o : Option Found) → cell < length found → found_in found cell ≡ o → IsDistanceOf (graph_of state) cell (option_map (λ place. place.distance) o)
distance_is layout state contents found is all cell o within this =
    distance_within (graph_held contents) (graph_of state) (held_within layout state contents is) (state_within layout state contents is) cell
    (option_map (λ place. place.distance) o)
    (subst (λ (p : Option Found). IsDistanceOf (graph_held contents) cell (option_map (λ place. place.distance) p)) this (all.distances cell within))

-- a cell that is kept is one of those that could be found
within_found : (contents : Contents) (found : List (Option Found)) (cell : ℕ) → length contents.cells.items ≤ length found → is_kept contents cell ≡ true → cell < length found
within_found contents found cell wide kept = elim (cases_lt cell (length contents.cells.items)) [
  | inl below ↦ omega (arith, below, wide)
  | inr past ↦ (let none = ap is_some (get_or_past contents.cells.items cell None past) in absurd (cc))
]

-- the paths of what was found are shortest
pub paths_are_shortest : (contents : Contents) (found : List (Option Found)) → FindsAll contents found → HasShortestPaths (record { contents = contents; found = found })
paths_are_shortest contents found all layout state cell is kept = look (found_in found cell) refl
  where
    within : cell < length found
    within = within_found contents found cell all.wide kept

    look : (o : Option Found) → found_in found cell ≡ o → IsPathOf state cell (path_from found cell o)
    look None this = distance_is layout state contents found is all cell None within this
    look (Some place) this =
        way_is_shortest layout state contents found is all cell place within this (distance_is layout state contents found is all cell (Some place) within this)

-- a path has as many steps as the cell is far
pub steps_within : (found : List (Option Found)) (cell steps : ℕ) → steps < length (cells_on (path_to found cell)) → steps ≤ distance_of found cell
steps_within found cell steps = look (found_in found cell)
  where
    look : (o : Option Found) → steps < length (cells_on (path_from found cell o)) → steps ≤ distance_in o
    look None few = absurd (omega (arith, few))
    look (Some place) few = let counted = trail-length found place.distance cell in omega (arith, few, counted)

-- which cell stands where on it
pub cell_there : (found : List (Option Found)) (cell steps this : ℕ) → steps < length (cells_on (path_to found cell)) → this ≡ above found (distance_of found cell - steps) cell →
    this ≡ get_or (cells_on (path_to found cell)) steps 0
cell_there found cell steps this = look (found_in found cell)
  where
    look : (o : Option Found) → steps < length (cells_on (path_from found cell o)) → this ≡ above found (distance_in o - steps) cell →
        this ≡ get_or (cells_on (path_from found cell o)) steps 0
    look None few is = absurd (omega (arith, few))
    look (Some place) few is = (let counted = trail-length found place.distance cell in is ∙ sym (way_at found place.distance cell steps (omega (arith, few, counted))))

-- where it begins, and how many steps it has
pub way_is : (found : List (Option Found)) (cell : ℕ) (place : Found) → found_in found cell ≡ Some place →
    Some (record { root = place.root; steps = place.distance }) ≡ option_map way_on (path_to found cell)
way_is found cell place this =
    sym (ap (λ (n : ℕ). Some (record { root = place.root; steps = n })) (trail-length found place.distance cell))
    ∙ sym (ap (λ (o : Option Found). option_map way_on (path_from found cell o)) this)

-- and none leads to a cell that wasn't found
pub no_way : (found : List (Option Found)) (cell : ℕ) → found_in found cell ≡ None → None ≡ option_map way_on (path_to found cell)
no_way found cell this = sym (ap (λ (o : Option Found). option_map way_on (path_from found cell o)) this)
