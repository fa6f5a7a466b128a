-- That no reference names a cell that isn't live, and no cell is claimed twice.
use Rattle.std.specs.Prelude.{ℕ, ◌≡◌, ◌<◌, ◌≤◌, true, nat_eq, [], length, Contains, Some}
use Rattle.std.specs.List.{IsDistinct}
use Rattle.tide_model.specs.declared.val.Val.{Val}
use Rattle.tide_model.specs.declared.val.Val.TheVariants.{Cell}
use Rattle.tide_model.specs.Layout.{Layout}
use Rattle.tide_model.specs.State.{State, live}

-- the cell is live
abbrev pub IsLive : State → ℕ → Type 0
IsLive state cell = (state.cells cell).status ≡ live

-- the value names no cell, or a live one
abbrev pub IsLiveValue : State → Val → Type 0
IsLiveValue state value = (cell : ℕ) → value ≡ Cell cell → IsLive state cell

-- Each reference in an active mutator's register, in a handle, in a live cell or in a pair of a live table is to a live
-- cell, and each claimed cell is live. A live cell's array is live, and no two live cells have the same.
pub record RefsAreLive (state : State) : Type 0 where
  pub in_registers : (who register cell : ℕ) → state.active who ≡ true → state.registers who register ≡ Cell cell → IsLive state cell
  pub claimed : (who cell : ℕ) → Contains (state.claims who) cell → IsLive state cell
  pub in_strong : (handle cell : ℕ) → state.strong handle ≡ Cell cell → IsLive state cell
  pub in_weak : (handle cell : ℕ) → state.weak handle ≡ Cell cell → IsLive state cell
  pub in_slots : (source slot cell : ℕ) → IsLive state source → (state.cells source).slots slot ≡ Cell cell → IsLive state cell
  pub in_properties : (source place cell : ℕ) → IsLive state source → place < length (state.cells source).keys →
      (state.cells source).properties place ≡ Cell cell → IsLive state cell
  pub keys_of_pairs : (table key : ℕ) (value : Val) → IsLive state table → (state.cells table).pairs key ≡ Some value → IsLive state key
  pub in_pairs : (table key cell : ℕ) → IsLive state table → (state.cells table).pairs key ≡ Some (Cell cell) → IsLive state cell
  pub arrays_are_live : (cell array : ℕ) → IsLive state cell → (state.cells cell).array ≡ Some array → state.arrays array ≡ live
  pub arrays_are_own : (one other array : ℕ) → IsLive state one → IsLive state other →
      (state.cells one).array ≡ Some array → (state.cells other).array ≡ Some array → one ≡ other

-- only mutators claim cells, no two of them the same, and none a cell twice
pub record ClaimsAreOwn (layout : Layout) (state : State) : Type 0 where
  pub of_mutators : (who : ℕ) → layout.mutators ≤ who → state.claims who ≡ []
  pub one_claims : (who other cell : ℕ) → Contains (state.claims who) cell → Contains (state.claims other) cell → who ≡ other
  pub once : (who : ℕ) → IsDistinct nat_eq (state.claims who)
