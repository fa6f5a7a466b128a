-- What contracts see of a plain store.
use Rattle.std.specs.Prelude.{ℕ, ◌≡◌, ◌&&◌, Bool, true, false, not, List, Option}
use Rattle.std.specs.List.{slice_index_or}
use Rattle.tide_model.specs.Layout.{Layout}
use Rattle.tide_model.specs.References.{IsLive, RefsAreLive}
use Rattle.tide_model.specs.State.{State}
use Rattle.tide_model.specs.Refused.{ShapeLists}
use Rattle.tide_plain.specs.stored.Contents.{state_of as state_of_contents}
use Rattle.tide_plain.specs.stored.Stored.{Stored}

-- a plain store: what it holds, the array that the last call took, and by number which blocks the last collection swept
-- and which cells it kept
pub record Plain : Type 0 where
  pub contents : Stored
  pub taken : Option ℕ
  pub swept : List Bool
  pub kept : List Bool

-- the layout of a store
abbrev pub layout_of : Plain → Layout
layout_of store = store.contents.layout

-- the key lists of a store's shapes
abbrev pub shapes_of : Plain → ShapeLists
shapes_of store = store.contents.shapes

-- the state for which a store stands
abbrev pub state_of : Plain → State
state_of store = state_of_contents store.contents

-- the cell is old: the last collection kept it
abbrev pub is_old : Plain → ℕ → Bool
is_old store cell = slice_index_or store.kept cell false

-- a collection keeps the cell for its age alone: it is no full one, and the cell is old
abbrev pub IsSpared : Plain → Bool → ℕ → Type 0
IsSpared store full cell = (not full && is_old store cell) ≡ true

-- no reference names a cell that isn't live, and what is old is live
pub record IsSound (store : Plain) : Type 0 where
  pub references : RefsAreLive (state_of store)
  pub old_are_live : (cell : ℕ) → is_old store cell ≡ true → IsLive (state_of store) cell
