-- What a store holds at one moment.
use Rattle.std.specs.Prelude.{ℕ, Bool, true, false, List, [], Option, None}
use Rattle.tide_model.specs.declared.val.Val.{Val}
use Rattle.tide_model.specs.declared.val.Val.TheVariants.{Empty}

-- what became of a cell or of an array: free, live, spent or dead; only an array is ever spent
pub data Status : Type 0 where
  free : Status
  live : Status
  spent : Status
  dead : Status

-- the status is free
abbrev pub is_free : Status → Bool
is_free free = true
is_free live = false
is_free spent = false
is_free dead = false

-- the status is live
abbrev pub is_live : Status → Bool
is_live free = false
is_live live = true
is_live spent = false
is_live dead = false

-- the status is dead
abbrev pub is_dead : Status → Bool
is_dead free = false
is_dead live = false
is_dead spent = false
is_dead dead = true

-- what a cell holds: its status, keys, slots, properties, pairs, group and array; the properties stand in the order of
-- the keys, and the pairs are a map from key cell to value
pub record CellState : Type 0 where
  pub status : Status
  pub keys : List ℕ
  pub slots : ℕ → Val
  pub properties : ℕ → Val
  pub pairs : ℕ → Option Val
  -- 0 for none
  pub group : ℕ
  pub array : Option ℕ

-- a cell that holds nothing
abbrev pub blank_cell : Status → CellState
blank_cell status = record {
  status = status;
  keys = [];
  slots = λ _. Empty;
  properties = λ _. Empty;
  pairs = λ _. None;
  group = 0;
  array = None;
}

-- no cycle marks, or the one with this number does
pub data Phase : Type 0 where
  idle : Phase
  marking : ℕ → Phase

-- what a store holds at one moment: who is active, registers, claims, handles, cells, arrays and the phase; what lies
-- outside of its layout is never live
pub record State : Type 0 where
  pub active : ℕ → Bool
  -- by mutator and register
  pub registers : ℕ → ℕ → Val
  -- the cells that each mutator claims, the oldest claim first
  pub claims : ℕ → List ℕ
  pub strong : ℕ → Val
  pub weak : ℕ → Val
  pub cells : ℕ → CellState
  pub arrays : ℕ → Status
  pub phase : Phase

-- all is free and empty, every mutator is active, and no cycle marks
abbrev pub empty_state : State
empty_state = record {
  active = λ _. true;
  registers = λ _ _. Empty;
  claims = λ _. [];
  strong = λ _. Empty;
  weak = λ _. Empty;
  cells = λ _. blank_cell free;
  arrays = λ _. free;
  phase = idle;
}
