-- What a search among the cells has found.
use Rattle.std.specs.Prelude.{ℕ, ◌≡◌, ◌↔◌, ◌⊎◌, ◌+◌, ◌<◌, ◌≤◌, ◌&&◌, Bool, true, false, List, [], ◌∷◌, ◌++◌, length, Contains, Option, None, Some, is_none, is_some, nat_lt, option_map, fold, count_by, replicate, slice_set, slice_index, slice_index_or, if◌then◌else◌}
use Rattle.tide_model.specs.Graph.{IsRetained, no_cell}
use Rattle.tide_retained.specs.declared.contents.Contents.{Contents}
use Rattle.tide_retained.specs.declared.contents.Keyed.{Keyed}
use Rattle.tide_retained.specs.declared.contents.Rooted.{Rooted}
use Rattle.tide_retained.specs.declared.search.Found.{Found}
use Rattle.tide_retained.specs.declared.contents.Held.{Held}
use Rattle.tide_retained.specs.declared.index.Entry.{Entry}
use Rattle.tide_retained.specs.Contents.{HasPair, cell_in, graph_held, held_at, links_of, pairs_of}
use Rattle.tide_retained.specs.Index.{items_of}
use Rattle.tide_retained.specs.Path.{IsDistanceOf, IsStep}

-- which cells are known to be retained, how each was found that was, in which order they were, and of which cells the
-- group mates were entered
pub record Search : Type 0 where
  pub retained : List Bool
  pub found : List (Option Found)
  pub order : List ℕ
  pub mated : List Bool

-- how a cell was found, if it was
abbrev pub found_in : List (Option Found) → ℕ → Option Found
found_in found cell = slice_index_or found cell None

abbrev pub found_at : Search → ℕ → Option Found
found_at search cell = found_in search.found cell

-- the cell is known to be retained
abbrev pub is_known : Search → ℕ → Bool
is_known search cell = slice_index_or search.retained cell false

-- the cell's group mates were entered
abbrev pub is_mated : Search → ℕ → Bool
is_mated search cell = slice_index_or search.mated cell false

-- a search over so many cells that has found none, where these are known to be retained
abbrev pub unsearched : List Bool → Search
unsearched retained = record {
  retained = retained;
  found = replicate (length retained) None;
  order = [];
  mated = replicate (length retained) false;
}

-- the cell is one of the cells and isn't found yet
abbrev pub is_new : Search → ℕ → Bool
is_new search cell = nat_lt cell (length search.found) && is_none (found_at search cell)

-- the search in which a cell was found like this
abbrev pub with_cell : Found → Search → ℕ → Search
with_cell place search cell = record search {
  retained = slice_set search.retained cell true;
  found = slice_set search.found cell (Some place);
  order = search.order ++ cell ∷ [];
}

-- the search in which a cell was entered so, unless it was found before or is none of the cells
abbrev pub entered : Found → Search → ℕ → Search
entered place search cell = if is_new search cell then with_cell place search cell else search

-- the search in which some cells were entered so, one after another
abbrev pub all_entered : Found → Search → List ℕ → Search
all_entered place search cells = fold (entered place) search cells

-- the search in which the cell in the value of a pair was entered so, where its key is known to be retained
abbrev pub pair_entered : Found → Search → Keyed → Search
pair_entered place search pair = if is_known search pair.key then all_entered place search (cell_in pair.value) else search

-- the search in which the cells in the values of some pairs were entered so
abbrev pub pairs_entered : Found → Search → List Keyed → Search
pairs_entered place search pairs = fold (pair_entered place) search pairs

-- the flags of some cells are set
abbrev pub with_flags : List Bool → List ℕ → List Bool
with_flags flags cells = fold (λ flags cell. slice_set flags cell true) flags cells

-- the search in which the group mates of some cells were entered
abbrev pub with_mated : Search → List ℕ → Search
with_mated search cells = record search { mated = with_flags search.mated cells }

-- the search in which the cells that roots hold were entered
abbrev pub root_entered : Search → Rooted → Search
root_entered search rooted = entered (record { distance = 0; parent = rooted.cell; root = rooted.root }) search rooted.cell

abbrev pub roots_entered : Search → List Rooted → Search
roots_entered search roots = fold root_entered search roots

-- the cell was found
abbrev pub IsFound : Search → ℕ → Type 0
IsFound search cell = (place : Found) × (found_at search cell ≡ Some place)

-- this is how a cell was found: a root holds it, or a step leads to it from a cell that was found before
pub data IsPlaced (contents : Contents) (found : List (Option Found)) (cell : ℕ) (place : Found) : Type 0 where
  by_root : place.distance ≡ 0 → place.parent ≡ cell → Contains contents.roots.items (record { root = place.root; cell = cell }) → IsPlaced contents found cell place
  by_step : (before : Found) → found_in found place.parent ≡ Some before → place.distance ≡ before.distance + 1 → place.root ≡ before.root →
      IsStep (graph_held contents) place.parent cell → IsPlaced contents found cell place

-- What was found is what steps lead to from the roots, each cell once in the order; what is known to be retained is;
-- and of each cell whose group mates were entered these were found.
pub record IsSearch (contents : Contents) (search : Search) : Type 0 where
  pub sized : length search.retained ≡ length search.found
  pub wide : length contents.cells.items ≤ length search.found
  pub retained : (cell : ℕ) → is_known search cell ≡ true → IsRetained (graph_held contents) no_cell cell
  pub placed : (cell : ℕ) (place : Found) → found_at search cell ≡ Some place → IsPlaced contents search.found cell place
  pub known : (cell : ℕ) (place : Found) → found_at search cell ≡ Some place → is_known search cell ≡ true
  pub near : (cell : ℕ) (place : Found) → found_at search cell ≡ Some place → place.distance < length search.order
  pub listed : (cell : ℕ) (place : Found) → found_at search cell ≡ Some place → Contains search.order cell
  pub in_order : (cell : ℕ) → Contains search.order cell → IsFound search cell
  pub count : length search.order ≡ count_by is_some search.found
  pub group_mates : (cell group_mate : ℕ) → is_mated search cell ≡ true → (graph_held contents).group_mate cell group_mate → IsFound search group_mate

-- more cells were found, all of them like this, and behind those that were found before
pub record Grows (place : Found) (old new : Search) : Type 0 where
  pub kept : (cell : ℕ) (before : Found) → found_at old cell ≡ Some before → found_at new cell ≡ Some before
  pub known : (cell : ℕ) → is_known old cell ≡ true → is_known new cell ≡ true
  pub added : List ℕ
  pub order : new.order ≡ old.order ++ added
  pub like_this : (cell : ℕ) → Contains added cell → found_at new cell ≡ Some place
  pub only_found : (cell : ℕ) → is_known new cell ≡ true → (is_known old cell ≡ true) ⊎ IsFound new cell
  pub same_size : length new.found ≡ length old.found

-- all of these cells were entered
pub record AreEntered (contents : Contents) (place : Found) (old : Search) (cells : List ℕ) (new : Search) : Type 0 where
  pub search : IsSearch contents new
  pub grows : Grows place old new
  pub each : (cell : ℕ) → Contains cells cell → cell < length old.found → IsFound new cell

-- the values of all these pairs were entered whose keys were known to be retained
pub record ArePairsEntered (contents : Contents) (place : Found) (old : Search) (pairs : List Keyed) (new : Search) : Type 0 where
  pub search : IsSearch contents new
  pub grows : Grows place old new
  pub each : (key cell : ℕ) → HasPair pairs key cell → is_known old key ≡ true → cell < length old.found → IsFound new cell

-- how a cell is found by a step from this one
abbrev pub place_after : ℕ → Found → Found
place_after cell before = record { distance = before.distance + 1; parent = cell; root = before.root }

-- the search in which was entered what a cell holds
abbrev pub held_entered : Found → Search → Held → Search
held_entered place search held = pairs_entered place (all_entered place search (links_of (Some held))) held.pairs.items

-- the search in which the members of a group were entered with their group mates
abbrev pub group_mates_entered : Found → Search → List Entry → Search
group_mates_entered place search members = with_mated (all_entered place search (items_of members)) (items_of members)

-- all was entered to which a step leads from a cell, as far as the keys of its pairs were known to be retained
pub record IsVisited (contents : Contents) (old : Search) (cell : ℕ) (new : Search) : Type 0 where
  pub search : IsSearch contents new
  pub grows : (before : Found) → found_at old cell ≡ Some before → Grows (place_after cell before) old new
  pub links : (target : ℕ) → (graph_held contents).link cell target → target < length old.found → IsFound new target
  pub values : (key target : ℕ) → (graph_held contents).triple cell key target → is_known old key ≡ true → target < length old.found → IsFound new target
  pub group_mates : (group_mate : ℕ) → (graph_held contents).group_mate cell group_mate → IsFound new group_mate

-- more cells were found, behind those that were found before
pub record Extends (old new : Search) : Type 0 where
  pub kept : (cell : ℕ) (before : Found) → found_at old cell ≡ Some before → found_at new cell ≡ Some before
  pub known : (cell : ℕ) → is_known old cell ≡ true → is_known new cell ≡ true
  pub added : List ℕ
  pub order : new.order ≡ old.order ++ added
  pub only_found : (cell : ℕ) → is_known new cell ≡ true → (is_known old cell ≡ true) ⊎ IsFound new cell
  pub same_size : length new.found ≡ length old.found

-- the search in which the values of a table's pairs were entered once more, if the table was found
abbrev pub again_entered_from : Option Found → Contents → ℕ → Search → Search
again_entered_from None contents table search = search
again_entered_from (Some before) contents table search = pairs_entered (place_after table before) search (pairs_of (held_at contents table))

abbrev pub again_entered : Contents → Search → ℕ → Search
again_entered contents search table = again_entered_from (found_at search table) contents table search

-- the values of the pairs were entered whose key is the cell and whose table was found
pub record IsKeyVisited (contents : Contents) (old : Search) (cell : ℕ) (new : Search) : Type 0 where
  pub search : IsSearch contents new
  pub extends : Extends old new
  pub values : (table target : ℕ) → (graph_held contents).triple table cell target → IsFound old table → is_known old cell ≡ true → target < length old.found → IsFound new target

-- the cell is one of the first so many in the order
abbrev pub IsPassed : Search → ℕ → ℕ → Type 0
IsPassed search at cell = (i : ℕ) × (i < at) × (slice_index search.order i ≡ cell)

-- Of the cells that were found the first so many were visited, and all was found that these retain.
pub record IsRetaining (contents : Contents) (search : Search) (at : ℕ) : Type 0 where
  pub stands : IsSearch contents search
  pub begun : at ≤ length search.order
  pub own : (cell : ℕ) → is_known search cell ≡ true → IsFound search cell
  pub roots : (cell : ℕ) → (graph_held contents).root cell → cell < length search.found → IsFound search cell
  pub links : (cell target : ℕ) → IsPassed search at cell → (graph_held contents).link cell target → target < length search.found → IsFound search target
  pub group_mates : (cell target : ℕ) → IsPassed search at cell → (graph_held contents).group_mate cell target → IsFound search target
  pub values : (table key target : ℕ) → IsPassed search at table → IsPassed search at key → (graph_held contents).triple table key target → target < length search.found →
      IsFound search target

-- the keys of all pairs are among so many cells
abbrev pub HasKeysBelow : ℕ → Contents → Type 0
HasKeysBelow n contents = (table : ℕ) (pair : Keyed) → Contains (pairs_of (held_at contents table)) pair → pair.key < n

-- of so many cells these are retained, and no others
abbrev pub AreRetained : Contents → List Bool → Type 0
AreRetained contents flags = (cell : ℕ) → cell < length flags → (slice_index_or flags cell false ≡ true) ↔ IsRetained (graph_held contents) no_cell cell

-- how far a cell is that was found
abbrev pub distance_in : Option Found → ℕ
distance_in None = 0
distance_in (Some place) = place.distance

abbrev pub distance_at : Search → ℕ → ℕ
distance_at search cell = distance_in (found_at search cell)

-- Of the cells that were found the first so many were visited: they stand in the order of their distances, and what a
-- step from one of them leads to is at most one step farther.
pub record IsLevelling (contents : Contents) (search : Search) (at : ℕ) : Type 0 where
  pub stands : IsSearch contents search
  pub begun : at ≤ length search.order
  pub complete : (cell : ℕ) → cell < length search.found → IsRetained (graph_held contents) no_cell cell → is_known search cell ≡ true
  pub roots : (cell : ℕ) → (graph_held contents).root cell → cell < length search.found → (place : Found) × (found_at search cell ≡ Some place) × (place.distance ≡ 0)
  pub steps : (cell target : ℕ) → IsPassed search at cell → IsStep (graph_held contents) cell target → target < length search.found →
      (place : Found) × (found_at search target ≡ Some place) × (place.distance ≤ distance_at search cell + 1)
  pub rising : (i j : ℕ) → i ≤ j → j < length search.order → distance_at search (slice_index search.order i) ≤ distance_at search (slice_index search.order j)
  pub bound : (j : ℕ) → at < length search.order → j < length search.order →
      distance_at search (slice_index search.order j) ≤ distance_at search (slice_index search.order at) + 1

-- Each cell was found that is retained, at its distance, and from the cell before it on a path that is as short.
pub record FindsAll (contents : Contents) (found : List (Option Found)) : Type 0 where
  pub wide : length contents.cells.items ≤ length found
  pub placed : (cell : ℕ) (place : Found) → found_in found cell ≡ Some place → IsPlaced contents found cell place
  pub distances : (cell : ℕ) → cell < length found → IsDistanceOf (graph_held contents) cell (option_map (λ place. place.distance) (found_in found cell))
