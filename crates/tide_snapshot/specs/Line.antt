-- The line of a live cell in a snapshot: what it holds, and a shortest path to it.
use Rattle.std.specs.Prelude.{ℕ, ◌≡◌, ◌≢◌, ◌==◌, List, [], ◌∷◌, ◌++◌, map, codes, if◌then◌else◌}
use Rattle.std.specs.List.{flat_map}
use Rattle.tide_text.specs.lines.Line.{cell_text, val_text}
use Rattle.tide_text.specs.lines.OpText.{key_operand, number_operand, register_operand}
use Rattle.tide_model.specs.declared.val.Val.{Val}
use Rattle.tide_model.specs.Graph.{IsRetained, graph_of, no_cell}
use Rattle.tide_model.specs.Layout.{Layout, cell_count, class_of, slots_of}
use Rattle.tide_model.specs.Refused.{table_class}
use Rattle.tide_model.specs.State.{CellState, State, live}
use Rattle.tide_retained.specs.declared.contents.Contents.{Contents}
use Rattle.tide_retained.specs.declared.contents.Keyed.{Keyed}
use Rattle.tide_retained.specs.declared.root.Root.{Root}
use Rattle.tide_retained.specs.declared.root.Root.TheVariants.{Register, Claim, Strong}
use Rattle.tide_retained.specs.Holding.{ArePairs, IsSnapshotOf, properties_of}
use Rattle.tide_retained.specs.Index.{up_to}
use Rattle.tide_retained.specs.Path.{IsShortestPath}

-- a value after a space
unfoldable pub value_piece : Val → List ℕ
value_piece value = codes " " ++ val_text value

-- a pair after a space, by its key cell
unfoldable pub pair_piece : Keyed → List ℕ
pair_piece pair = codes " " ++ cell_text pair.key ++ codes "=" ++ val_text pair.value

-- a property after a space, by the name of its key
unfoldable pub property_piece : List (List ℕ) → Keyed → List ℕ
property_piece names property = key_operand names property.key ++ codes "=" ++ val_text property.value

-- a cell after a space
unfoldable pub cell_piece : ℕ → List ℕ
cell_piece cell = codes " " ++ cell_text cell

-- a cell's id and class
unfoldable pub head_text : ℕ → ℕ → List ℕ
head_text cell class = codes "cell " ++ cell_text cell ++ codes " class" ++ number_operand class

-- the values of a cell's slots
abbrev pub slots_text : List Val → List ℕ
slots_text values = codes " slots" ++ flat_map value_piece values

-- the pairs of a table
abbrev pub pairs_text : List Keyed → List ℕ
pairs_text pairs = codes " pairs" ++ flat_map pair_piece pairs

-- the pairs of a table, and the values of the slots of any other cell
unfoldable pub body_text : ℕ → List Val → List Keyed → List ℕ
body_text class values pairs = if class == table_class then pairs_text pairs else slots_text values

-- a cell's properties, where it has some
unfoldable pub properties_text : List (List ℕ) → List Keyed → List ℕ
properties_text names [] = []
properties_text names (property ∷ properties) = codes " props" ++ flat_map (property_piece names) (property ∷ properties)

-- a cell's group, where it is in one
unfoldable pub group_text : ℕ → List ℕ
group_text group = if group == 0 then [] else codes " group" ++ number_operand group

-- a root
unfoldable pub root_text : Root → List ℕ
root_text (Register who register) = register_operand register ++ codes " of" ++ number_operand who
root_text (Claim who) = codes " claim of" ++ number_operand who
root_text (Strong handle) = codes " strong" ++ number_operand handle

-- a path: the root, and each of its cells
abbrev pub path_text : Root → List ℕ → List ℕ
path_text root cells = codes " path" ++ root_text root ++ flat_map cell_piece cells

-- a live cell and what it holds, its properties and its group where it has some
abbrev pub cell_line : List (List ℕ) → ℕ → ℕ → List Val → List Keyed → List Keyed → ℕ → List ℕ
cell_line names cell class values pairs properties group =
    head_text cell class ++ body_text class values pairs ++ properties_text names properties ++ group_text group

-- what the state says of a live cell, where these are its pairs
abbrev pub state_line : Layout → List (List ℕ) → ℕ → CellState → List Keyed → List ℕ
state_line layout names cell held pairs =
    cell_line names cell (class_of layout cell) (map held.slots (up_to (slots_of (class_of layout cell)))) pairs (properties_of held) held.group

-- The line of a live cell: what it holds, with the keys of its pairs rising, and a path to it than which none has fewer
-- steps, or that there is none.
pub data IsSnapshotLine (layout : Layout) (names : List (List ℕ)) (state : State) (cell : ℕ) : List ℕ → Type 0 where
  with_path : (pairs : List Keyed) (root : Root) (first : ℕ) (others : List ℕ) → ArePairs (state.cells cell).pairs pairs → IsShortestPath state root first others cell →
      IsSnapshotLine layout names state cell
      (state_line layout names cell (state.cells cell) pairs ++ (path_text root (first ∷ others) ++ codes "\n"))
  without_path : (pairs : List Keyed) → ArePairs (state.cells cell).pairs pairs → (IsRetained (graph_of state) no_cell cell → ⊥) →
      IsSnapshotLine layout names state cell
      (state_line layout names cell (state.cells cell) pairs ++ (codes " path none" ++ codes "\n"))

-- the text is the line of a cell in each state that the snapshot is of
abbrev pub IsLineIn : Contents → List (List ℕ) → ℕ → List ℕ → Type 0
IsLineIn snapshot names cell text = (layout : Layout) (state : State) → IsSnapshotOf layout state snapshot → IsSnapshotLine layout names state cell text

-- The lines of a state: that of each live cell, in rising order, and none of any other.
pub record AreLines (layout : Layout) (names : List (List ℕ)) (state : State) (text : List ℕ) : Type 0 where
  pub line : ℕ → List ℕ
  pub of_live : (cell : ℕ) → (state.cells cell).status ≡ live → IsSnapshotLine layout names state cell (line cell)
  pub of_others : (cell : ℕ) → (state.cells cell).status ≢ live → line cell ≡ []
  pub in_order : text ≡ flat_map line (up_to (cell_count layout))

-- the text is the lines of each state that the snapshot is of
abbrev pub AreLinesIn : Contents → List (List ℕ) → List ℕ → Type 0
AreLinesIn snapshot names text = (layout : Layout) (state : State) → IsSnapshotOf layout state snapshot → AreLines layout names state text
