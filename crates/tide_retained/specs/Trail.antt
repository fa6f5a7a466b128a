-- The way to a cell, by the cell before each.
use Rattle.std.specs.Prelude.{ℕ, zero, suc, ◌≡◌, ◌+◌, ◌-◌, ◌<◌, ◌≤◌, List, [], ◌∷◌, ◌++◌, length, Option, None, Some, slice_index, slice_index_or}
use Rattle.tide_retained.specs.declared.contents.Contents.{Contents}
use Rattle.tide_retained.specs.declared.search.Found.{Found}
use Rattle.tide_retained.specs.Searching.{FindsAll, distance_in, found_in}

-- the cell before a cell, and the cell itself where it wasn't found
abbrev pub parent_from : Option Found → ℕ → ℕ
parent_from None cell = cell
parent_from (Some place) cell = place.parent

abbrev pub parent_in : List (Option Found) → ℕ → ℕ
parent_in found cell = parent_from (found_in found cell) cell

-- how far a cell is
abbrev pub distance_of : List (Option Found) → ℕ → ℕ
distance_of found cell = distance_in (found_in found cell)

-- the cell so many steps before this one
unfoldable pub above : List (Option Found) → ℕ → ℕ → ℕ
above found zero cell = cell
above found (suc n) cell = above found n (parent_in found cell)

-- the cells on the way behind the first, up to this one, if it has so many steps
unfoldable pub trail : List (Option Found) → ℕ → ℕ → List ℕ
trail found zero cell = []
trail found (suc n) cell = trail found n (parent_in found cell) ++ cell ∷ []

-- a cell that was found has distance 0 and is its own parent, or its parent is one step less far
pub record IsWay (found : List (Option Found)) : Type 0 where
  pub start : (cell : ℕ) → distance_of found cell ≡ 0 → parent_in found cell ≡ cell
  pub nearer : (cell : ℕ) → 0 < distance_of found cell → distance_of found cell ≡ distance_of found (parent_in found cell) + 1

-- the one cell stands on the way to the other: itself only where that is the first
abbrev pub IsAbove : List (Option Found) → ℕ → ℕ → Type 0
IsAbove found cell other = (n : ℕ) × (n ≤ distance_of found cell) × (0 < distance_of found cell → 0 < n) × (above found n cell ≡ other)

-- each skip leads to such a cell
abbrev pub AreSkips : List (Option Found) → List ℕ → Type 0
AreSkips found skips = (cell : ℕ) → IsAbove found cell (slice_index_or skips cell cell)

-- the first so many of these cells stand on the way to a cell: itself last, and before each the one before it
abbrev pub AreUpFrom : List (Option Found) → ℕ → ℕ → List ℕ → Type 0
AreUpFrom found last count cells = (k : ℕ) → k < count → slice_index cells k ≡ above found (count - 1 - k) last

-- the cells stand on the way to a cell, one behind another, from this distance on, as far as the way goes
abbrev pub AreOnWay : List (Option Found) → ℕ → ℕ → List ℕ → Type 0
AreOnWay found cell distance cells =
    (k : ℕ) → k < length cells → distance + k ≤ distance_of found cell → slice_index cells k ≡ above found (distance_of found cell - (distance + k)) cell

-- what is kept of paths: each cell that is retained was found at its distance, of 20,480 cells at least, whatever the
-- heap has, and of no more than a heap may have; and skips lead along the ways to them
pub record HasPaths (contents : Contents) (found : List (Option Found)) (skips : List ℕ) : Type 0 where
  pub finds : FindsAll contents found
  pub least : 20480 ≤ length found
  pub most : length found ≤ 83886080
  pub skips_lead : AreSkips found skips
