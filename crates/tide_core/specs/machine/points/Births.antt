-- The point on cells that were born in the cycle, and those whose colour is still owed.
use Rattle.std.specs.Prelude.{ℕ, ◌≡◌, ◌≢◌, true, false, List, ◌⊎◌, Some, Contains, ◌<◌}
use Rattle.tide_core.specs.wave.FrozenWave.{is_born_in_cycle}
use Rattle.tide_core.specs.machine.Duties.{OwesColour}
use Rattle.tide_core.specs.machine.Scanning.{Place}
use Rattle.tide_core.specs.declared.machine.view.View.{View}
use Rattle.tide_core.specs.machine.points.Links.{LinkAt}
use Rattle.tide_model.specs.Cycle.{cycle_span}
use Rattle.tide_model.specs.Graph.{IsRetained}
use Rattle.tide_model.specs.History.{state_after}
use Rattle.tide_model.specs.Layout.{Layout, cell_count}
use Rattle.tide_model.specs.References.{IsLive}
use Rattle.tide_model.specs.State.{State}
use Rattle.tide_model.specs.declared.entry.Event.{Event}
use Rattle.tide_model.specs.declared.val.Val.TheVariants.{Cell}
use Rattle.tide_words.specs.heap.Heap.{Heap}
use Rattle.tide_words.specs.marking.Colours.{is_marking, IsMarked}
use Rattle.tide_words.specs.marking.Marked.{is_marked}
use Rattle.tide_model.specs.Old.{IsSpared}

-- nothing but registers of this mutator names the cell, and it holds nothing
pub record IsHidden (state : State) (p cell : ℕ) : Type 0 where
  pub registers : (who register : ℕ) → who ≢ p → state.active who ≡ true →
      state.registers who register ≡ Cell cell → ⊥
  pub strong : (handle : ℕ) → state.strong handle ≡ Cell cell → ⊥
  pub weak : (handle : ℕ) → state.weak handle ≡ Cell cell → ⊥
  pub claims : (who : ℕ) → Contains (state.claims who) cell → ⊥
  pub linked : (source : ℕ) (place : Place) → LinkAt state source place cell → ⊥
  pub paired : (table key : ℕ) → IsLive state table → (state.cells table).pairs key ≡ Some (Cell cell) → ⊥
  pub blank : (place : Place) (target : ℕ) → LinkAt state cell place target → ⊥

-- a cell whose born colour this mutator owes: live and born in this cycle, not marked, retained, and otherwise unknown
pub record AwaitsColour (layout : Layout) (heap : Heap) (log : List Event) (p cell : ℕ) : Type 0 where
  pub is_new : is_born_in_cycle log cell ≡ true
  pub alive : IsLive (state_after layout log) cell
  pub white : is_marked heap cell ≡ false
  pub kept : IsRetained (cycle_span layout log) (IsSpared layout log) cell
  pub alone : (source : ℕ) → (cycle_span layout log).link source cell → ⊥
  pub hidden : IsHidden (state_after layout log) p cell

-- while a cycle marks, each cell born in it is marked, or its colour is owed by the one that took it, and by nobody
-- else
pub record RunningBornIsMarked (layout : Layout) (heap : Heap) (part : ℕ → View) (log : List Event) : Type 0 where
  pub born : is_marking heap ≡ true → (cell : ℕ) → cell < cell_count layout → is_born_in_cycle log cell ≡ true →
      IsMarked heap cell ⊎ ((p : ℕ) × OwesColour (part p).duty cell)
  pub owed : is_marking heap ≡ true → (p cell : ℕ) → OwesColour (part p).duty cell → AwaitsColour layout heap log p cell
  pub alive : (p cell : ℕ) → OwesColour (part p).duty cell → IsLive (state_after layout log) cell
  -- also where no cycle marks it isn't marked, since it was free
  pub white : (p cell : ℕ) → OwesColour (part p).duty cell → is_marked heap cell ≡ false
  pub owner : ℕ → ℕ
  pub once : (p cell : ℕ) → OwesColour (part p).duty cell → owner cell ≡ p
