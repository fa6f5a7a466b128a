-- What a heap held, and a path to each cell that was retained.
use Rattle.std.specs.Prelude.{ℕ, ◌≡◌, ◌+◌, ◌<◌, true, List, [], ◌∷◌, length, Option, None, Some, slice_index}
use Rattle.tide_model.specs.Graph.{IsRetained, graph_of, no_cell}
use Rattle.tide_model.specs.Layout.{Layout}
use Rattle.tide_model.specs.State.{State}
use Rattle.tide_retained.specs.declared.contents.Contents.{Contents}
use Rattle.tide_retained.specs.declared.retained.Way.{Way}
use Rattle.tide_retained.specs.declared.root.Root.{Root}
use Rattle.tide_retained.specs.declared.search.Found.{Found}
use Rattle.tide_retained.specs.Contents.{is_kept}
use Rattle.tide_retained.specs.Holding.{IsSnapshotOf}
use Rattle.tide_retained.specs.Path.{IsShortestPath}
use Rattle.tide_retained.specs.Searching.{found_in}
use Rattle.tide_retained.specs.Trail.{above, trail}

-- a path: a root, the cell in it, and the cells to which steps lead from there
pub record Path : Type 0 where
  pub root : Root
  pub first : ℕ
  pub others : List ℕ

-- what a heap held, and how each cell was found that is retained
pub record Retention : Type 0 where
  pub contents : Contents
  pub found : List (Option Found)

-- where a path begins, and how many steps it has
abbrev pub way_on : Path → Way
way_on path = record { root = path.root; steps = length path.others }

-- the cells on a path, if there is one
abbrev pub cells_on : Option Path → List ℕ
cells_on None = []
cells_on (Some path) = path.first ∷ path.others

-- these are the cells of a path from so many steps on, one behind another, as far as it goes
abbrev pub AreFrom : List ℕ → ℕ → List ℕ → Type 0
AreFrom path steps cells = (k : ℕ) → k < length cells → steps + k < length path → slice_index cells k ≡ slice_index path (steps + k)

-- the path to a cell, if it was found
abbrev pub path_from : List (Option Found) → ℕ → Option Found → Option Path
path_from found cell None = None
path_from found cell (Some place) = Some (record { root = place.root; first = above found place.distance cell; others = trail found place.distance cell })

abbrev pub path_to : List (Option Found) → ℕ → Option Path
path_to found cell = path_from found cell (found_in found cell)

-- the path that is kept to a cell, if there is one
abbrev pub path_of : Retention → ℕ → Option Path
path_of kept cell = path_to kept.found cell

-- the path is one to the cell than which none has fewer steps; none where nothing retains the cell
abbrev pub IsPathOf : State → ℕ → Option Path → Type 0
IsPathOf state cell None = IsRetained (graph_of state) no_cell cell → ⊥
IsPathOf state cell (Some path) = IsShortestPath state path.root path.first path.others cell

-- each live cell has such a path, in each state that has these contents
abbrev pub HasShortestPaths : Retention → Type 0
HasShortestPaths kept = (layout : Layout) (state : State) (cell : ℕ) → IsSnapshotOf layout state kept.contents → is_kept kept.contents cell ≡ true → IsPathOf state cell (path_of kept cell)
