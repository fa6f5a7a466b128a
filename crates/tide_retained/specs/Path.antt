-- Paths that retain cells, and the shortest of them.
use Rattle.std.specs.Prelude.{ℕ, suc, ◌≡◌, ◌↔◌, ◌≤◌, true, List, [], ◌∷◌, length, Contains, Option, None, Some}
use Rattle.tide_model.specs.Graph.{Graph, IsRetained, no_cell, graph_of}
use Rattle.tide_model.specs.State.{State}
use Rattle.tide_model.specs.declared.val.Val.TheVariants.{Cell}
use Rattle.tide_retained.specs.declared.root.Root.{Root}
use Rattle.tide_retained.specs.declared.root.Root.TheVariants.{Register, Claim, Strong}

-- one step from a cell: along a link, from a table to the value of a pair whose key is retained, or to a group mate
pub data IsStep (graph : Graph) (source cell : ℕ) : Type 0 where
  along_link : graph.link source cell → IsStep graph source cell
  to_value : (key : ℕ) → graph.triple source key cell → IsRetained graph no_cell key → IsStep graph source cell
  to_group_mate : graph.group_mate source cell → IsStep graph source cell

-- from a root, so many steps lead to the cell
pub data Reaches (graph : Graph) : ℕ → ℕ → Type 0 where
  at_root : {cell : ℕ} → graph.root cell → Reaches graph 0 cell
  by_step : {steps cell : ℕ} (source : ℕ) → Reaches graph steps source → IsStep graph source cell → Reaches graph (suc steps) cell

-- so many steps lead to the cell, and no fewer
pub record IsDistance (graph : Graph) (cell steps : ℕ) : Type 0 where
  pub reaches : Reaches graph steps cell
  pub least : (others : ℕ) → Reaches graph others cell → steps ≤ others

-- the answer is how many steps lead to the cell at least; none where nothing retains it
abbrev pub IsDistanceOf : Graph → ℕ → Option ℕ → Type 0
IsDistanceOf graph cell None = IsRetained graph no_cell cell → ⊥
IsDistanceOf graph cell (Some steps) = IsDistance graph cell steps

-- this root holds the cell: a register of an active mutator, a mutator's claim, or a strong handle
abbrev pub Holds : State → Root → ℕ → Type 0
Holds state (Register who register) cell = (state.active who ≡ true) × (state.registers who register ≡ Cell cell)
Holds state (Claim who) cell = Contains (state.claims who) cell
Holds state (Strong handle) cell = state.strong handle ≡ Cell cell

-- steps lead from the first cell over these cells, one after another, to the last
pub data Leads (graph : Graph) : ℕ → List ℕ → ℕ → Type 0 where
  there : {cell : ℕ} → Leads graph cell [] cell
  on : {source cell : ℕ} {cells : List ℕ} (next : ℕ) → IsStep graph source next → Leads graph next cells cell → Leads graph source (next ∷ cells) cell

-- a path to the cell: a root, the cell in it, and the cells to which steps lead from there
pub record IsPath (state : State) (root : Root) (first : ℕ) (others : List ℕ) (cell : ℕ) : Type 0 where
  pub holds : Holds state root first
  pub leads : Leads (graph_of state) first others cell

-- a path to the cell than which none has fewer steps
pub record IsShortestPath (state : State) (root : Root) (first : ℕ) (others : List ℕ) (cell : ℕ) : Type 0 where
  pub is_path : IsPath state root first others cell
  pub least : (from : Root) (start : ℕ) (along : List ℕ) → IsPath state from start along cell → length others ≤ length along

-- just what a state retains is reached from a root, by some number of steps
abbrev pub PathsRetain : Type 0
PathsRetain = (state : State) (cell : ℕ) → IsRetained (graph_of state) no_cell cell ↔ ((steps : ℕ) × Reaches (graph_of state) steps cell)

-- no cell has two distances
abbrev pub DistancesAreAlone : Type 0
DistancesAreAlone = (state : State) (cell one other : ℕ) → IsDistance (graph_of state) cell one → IsDistance (graph_of state) cell other → one ≡ other
