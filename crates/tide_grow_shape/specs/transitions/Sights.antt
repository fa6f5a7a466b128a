-- What a sight of a cell is, and what it tells.
use Rattle.std.specs.Prelude.{ℕ, ◌≡◌, ◌≤◌, ◌+◌, ◌*◌, Bool, List, All, map, if◌then◌else◌}
use Rattle.tide_grow_shape.specs.transitions.Cells.{IsShape, IsSource, Shown, cell_id, last_in, name_of}
use Rattle.tide_grow_shape.specs.transitions.Walks.{Spot, Edge, AreOfOne, Includes, Finds, first_of}
use Rattle.tide_grow_shape.specs.declared.transitions.cells.Cells.{Cells}
use Rattle.tide_grow_shape.specs.declared.transitions.sight.Sight.{Sight}
use Rattle.tide_grow_shape.specs.declared.transitions.walking.Seen.{Seen}
use Rattle.tide_grow_shape.specs.declared.transitions.unmade.Unmade.{Unmade}
use Rattle.tide_grow_shape.specs.declared.transitions.unmade.Unmade.TheVariants.{Many, Memory}

-- what was read of a cell of the table of this name, with what shows it; no cell names a shape above the highest number
pub record IsSight (name : List ℕ) (s : Sight) : Type 0 where
  pub source : IsSource name s.next s.shape s.source
  pub of : s.link.of ≡ cell_id name s.next s.source
  pub link : s.link.value ≡ s.child
  pub item : IsShape name s.child s.item
  pub parent : s.item.value.parent ≡ s.parent
  pub key : s.item.value.key ≡ s.key
  pub last : s.child ≤ last_in name

-- what a sight tells
abbrev pub edge_of : Sight → Edge
edge_of s = record { spot = record { next = s.next; shape = s.shape }; child = s.child; parent = s.parent; key = s.key }

-- what sights tell
abbrev pub edges_of : List Sight → List Edge
edges_of = map edge_of

-- a sight is of this cell
abbrev pub IsOf : Bool → ℕ → Sight → Type 0
IsOf next shape s = (s.next ≡ next) × (s.shape ≡ shape)

-- the number of a cell
abbrev pub cell_number : Bool → ℕ → ℕ
cell_number next shape = shape * 2 + (if next then 1 else 0)

-- sights of the table of this name, of one table
pub record AreSights (name : List ℕ) (sights : List Sight) : Type 0 where
  pub read : All (IsSight name) sights
  pub one : AreOfOne (edges_of sights)

-- a walk for a key that comes to this cell goes on from it
abbrev pub LeadsTo : List Edge → ℕ → ℕ → Spot → Type 0
LeadsTo edges shape key spot =
    (more : List Edge) (child : ℕ) → Includes edges more → Finds more shape key spot child → Finds more shape key (first_of shape) child

-- why a walk came to no child: an item of the table stands where its number would be past the last one, or memory
-- lacked
abbrev pub IsUnmade : Cells → Unmade → Type 0
IsUnmade cells (Many item) = Shown (name_of cells) item × (last_in (name_of cells) ≤ item.index)
IsUnmade cells Memory = Unit {0}

-- what was told of a cell
abbrev pub seen_edge : Bool → ℕ → Seen → Edge
seen_edge next shape seen = record { spot = record { next = next; shape = shape }; child = seen.child; parent = seen.parent; key = seen.key }
