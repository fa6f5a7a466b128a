-- No change of one thing in a store makes a reference to a cell that isn't live, where it puts live values alone.
use Rattle.std.proofs.Common.{ℕ, ◌≡◌, ◌<◌, ◌≢◌, refl, subst, arith, Bool, true, false, List, length}
use Rattle.std.specs.Prelude.{Contains, Option, Some}
use Rattle.tide_model.specs.declared.val.Val.{Val}
use Rattle.tide_model.specs.declared.val.Val.TheVariants.{Empty, Int, Cell}
use Rattle.tide_model.specs.Numbers.{put_at}
use Rattle.tide_model.specs.State.{State, CellState, Status, live, blank_cell, empty_state}
use Rattle.tide_model.specs.Applied.{put_register, put_slot, put_cell, put_claims, place_of, put_property, put_pair}
use Rattle.tide_model.specs.References.{IsLive, IsLiveValue, RefsAreLive}
use Rattle.tide_model.proofs.NumberLaws.{put_at_elim}

-- the empty store has no references
pub RefsAreLive-empty : RefsAreLive empty_state
RefsAreLive-empty = record {
  in_registers = λ who register cell active is. absurd (cc);
  claimed = λ who cell at. absurd (let below = at.1 in omega (arith, below));
  in_strong = λ handle cell is. absurd (cc);
  in_weak = λ handle cell is. absurd (cc);
  in_slots = λ source slot cell alive is. absurd (cc);
  in_properties = λ source place cell alive below is. absurd (cc);
  keys_of_pairs = λ table key value alive is. absurd (cc);
  in_pairs = λ table key cell alive is. absurd (cc);
  arrays_are_live = λ cell array alive is. absurd (cc);
  arrays_are_own = λ one other array alive other_alive is other_is. absurd (cc);
}

-- a register, a strong and a weak handle have another value
pub RefsAreLive-register : (state : State) (who register : ℕ) (value : Val) → RefsAreLive state → IsLiveValue state value →
    RefsAreLive (put_register state who register value)
RefsAreLive-register state who register value refs alive = record {
  in_registers = λ w r cell active. put_at_elim (λ n (own : ℕ → Val). state.active n ≡ true → own r ≡ Cell cell → IsLive state cell)
      state.registers who (put_at (state.registers who) register value)
      (λ is_active. put_at_elim (λ n v. v ≡ Cell cell → IsLive state cell) (state.registers who) register value
      (alive cell) (λ n other. refs.in_registers who n cell is_active) r)
      (λ n other is_active. refs.in_registers n r cell is_active) w active;
  claimed = refs.claimed;
  in_strong = refs.in_strong;
  in_weak = refs.in_weak;
  in_slots = refs.in_slots;
  in_properties = refs.in_properties;
  keys_of_pairs = refs.keys_of_pairs;
  in_pairs = refs.in_pairs;
  arrays_are_live = refs.arrays_are_live;
  arrays_are_own = refs.arrays_are_own;
}

pub RefsAreLive-strong : (state : State) (handle : ℕ) (value : Val) → RefsAreLive state → IsLiveValue state value →
    RefsAreLive (record state { strong = put_at state.strong handle value })
RefsAreLive-strong state handle value refs alive = record {
  in_registers = refs.in_registers;
  claimed = refs.claimed;
  in_strong = λ h cell. put_at_elim (λ n v. v ≡ Cell cell → IsLive state cell) state.strong handle value (alive cell) (λ n other. refs.in_strong n cell) h;
  in_weak = refs.in_weak;
  in_slots = refs.in_slots;
  in_properties = refs.in_properties;
  keys_of_pairs = refs.keys_of_pairs;
  in_pairs = refs.in_pairs;
  arrays_are_live = refs.arrays_are_live;
  arrays_are_own = refs.arrays_are_own;
}

pub RefsAreLive-weak : (state : State) (handle : ℕ) (value : Val) → RefsAreLive state → IsLiveValue state value →
    RefsAreLive (record state { weak = put_at state.weak handle value })
RefsAreLive-weak state handle value refs alive = record {
  in_registers = refs.in_registers;
  claimed = refs.claimed;
  in_strong = refs.in_strong;
  in_weak = λ h cell. put_at_elim (λ n v. v ≡ Cell cell → IsLive state cell) state.weak handle value (alive cell) (λ n other. refs.in_weak n cell) h;
  in_slots = refs.in_slots;
  in_properties = refs.in_properties;
  keys_of_pairs = refs.keys_of_pairs;
  in_pairs = refs.in_pairs;
  arrays_are_live = refs.arrays_are_live;
  arrays_are_own = refs.arrays_are_own;
}

-- a mutator claims live cells
pub RefsAreLive-claims : (state : State) (who : ℕ) (claims : List ℕ) → RefsAreLive state → ((cell : ℕ) → Contains claims cell → IsLive state cell) →
    RefsAreLive (put_claims state who claims)
RefsAreLive-claims state who claims refs alive = record {
  in_registers = refs.in_registers;
  claimed = λ w cell. put_at_elim (λ n (own : List ℕ). Contains own cell → IsLive state cell) state.claims who claims (alive cell) (λ n other. refs.claimed n cell) w;
  in_strong = refs.in_strong;
  in_weak = refs.in_weak;
  in_slots = refs.in_slots;
  in_properties = refs.in_properties;
  keys_of_pairs = refs.keys_of_pairs;
  in_pairs = refs.in_pairs;
  arrays_are_live = refs.arrays_are_live;
  arrays_are_own = refs.arrays_are_own;
}

-- a mutator retires, and its registers count no more
pub RefsAreLive-retire : (state : State) (who : ℕ) → RefsAreLive state → RefsAreLive (record state { active = put_at state.active who false })
RefsAreLive-retire state who refs = record {
  in_registers = λ w r cell. put_at_elim (λ n (is_active : Bool). is_active ≡ true → state.registers n r ≡ Cell cell → IsLive state cell) state.active who false
      (λ active is. absurd (cc)) (λ n other active is. refs.in_registers n r cell active is) w;
  claimed = refs.claimed;
  in_strong = refs.in_strong;
  in_weak = refs.in_weak;
  in_slots = refs.in_slots;
  in_properties = refs.in_properties;
  keys_of_pairs = refs.keys_of_pairs;
  in_pairs = refs.in_pairs;
  arrays_are_live = refs.arrays_are_live;
  arrays_are_own = refs.arrays_are_own;
}

-- what a cell may hold, with these arrays, so that references stay to live cells: live cells, and a live array of its
-- own
pub record HoldsLive (state : State) (cell : ℕ) (held : CellState) (arrays : ℕ → Status) : Type 0 where
  pub is_live : held.status ≡ live
  pub slots : (slot named : ℕ) → held.slots slot ≡ Cell named → IsLive state named
  pub properties : (place named : ℕ) → place < length held.keys → held.properties place ≡ Cell named → IsLive state named
  pub keys_of_pairs : (key : ℕ) (value : Val) → held.pairs key ≡ Some value → IsLive state key
  pub pairs : (key named : ℕ) → held.pairs key ≡ Some (Cell named) → IsLive state named
  pub array_is_live : (array : ℕ) → held.array ≡ Some array → arrays array ≡ live
  pub array_is_own : (other array : ℕ) → other ≢ cell → IsLive state other → (state.cells other).array ≡ Some array → held.array ≡ Some array → ⊥
  pub others_stay : (other array : ℕ) → other ≢ cell → IsLive state other → (state.cells other).array ≡ Some array → arrays array ≡ live

-- a cell holds something else, and the arrays are others
pub RefsAreLive-cell : (state : State) (cell : ℕ) (held : CellState) (arrays : ℕ → Status) → RefsAreLive state → HoldsLive state cell held arrays →
    RefsAreLive (record state { cells = put_at state.cells cell held; arrays = arrays })
RefsAreLive-cell state cell held arrays refs holds_live = record {
  in_registers = λ who register named active is. stays named (refs.in_registers who register named active is);
  claimed = λ who named at. stays named (refs.claimed who named at);
  in_strong = λ handle named is. stays named (refs.in_strong handle named is);
  in_weak = λ handle named is. stays named (refs.in_weak handle named is);
  in_slots = λ source slot named. put_at_elim (λ n c. c.status ≡ live → c.slots slot ≡ Cell named → Stays named) state.cells cell held
      (λ alive is. stays named (holds_live.slots slot named is))
      (λ n other alive is. stays named (refs.in_slots n slot named alive is)) source;
  in_properties = λ source place named. put_at_elim (λ n c. c.status ≡ live → place < length c.keys → c.properties place ≡ Cell named → Stays named) state.cells cell held
      (λ alive below is. stays named (holds_live.properties place named below is))
      (λ n other alive below is. stays named (refs.in_properties n place named alive below is)) source;
  keys_of_pairs = λ table key value. put_at_elim (λ n c. c.status ≡ live → c.pairs key ≡ Some value → Stays key) state.cells cell held
      (λ alive is. stays key (holds_live.keys_of_pairs key value is))
      (λ n other alive is. stays key (refs.keys_of_pairs n key value alive is)) table;
  in_pairs = λ table key named. put_at_elim (λ n c. c.status ≡ live → c.pairs key ≡ Some (Cell named) → Stays named) state.cells cell held
      (λ alive is. stays named (holds_live.pairs key named is))
      (λ n other alive is. stays named (refs.in_pairs n key named alive is)) table;
  arrays_are_live = λ source array. put_at_elim (λ n c. c.status ≡ live → c.array ≡ Some array → arrays array ≡ live) state.cells cell held
      (λ alive is. holds_live.array_is_live array is)
      (λ n other alive is. holds_live.others_stay n array other alive is) source;
  arrays_are_own = λ one other array. put_at_elim (λ n c. c.status ≡ live → Stays other → c.array ≡ Some array → (put_at state.cells cell held other).array ≡ Some array → n ≡ other) state.cells cell held
      (λ alive. put_at_elim (λ m d. d.status ≡ live → held.array ≡ Some array → d.array ≡ Some array → cell ≡ m) state.cells cell held
      (λ same is again. refl)
      (λ m apart other_alive is other_is. absurd (holds_live.array_is_own m array apart other_alive other_is is)) other)
      (λ n apart alive. put_at_elim (λ m d. d.status ≡ live → (state.cells n).array ≡ Some array → d.array ≡ Some array → n ≡ m) state.cells cell held
      (λ same is other_is. absurd (holds_live.array_is_own n array apart alive is other_is))
      (λ m other_apart other_alive is other_is. refs.arrays_are_own n m array alive other_alive is other_is) other) one;
}
  where
    Stays : ℕ → Type 0
    Stays named = (put_at state.cells cell held named).status ≡ live

    stays : (named : ℕ) → IsLive state named → Stays named
    stays named = put_at_elim (λ n c. IsLive state n → c.status ≡ live) state.cells cell held (λ alive. holds_live.is_live) (λ n other alive. alive) named

-- what a live cell holds already
pub HoldsLive-itself : (state : State) (cell : ℕ) → RefsAreLive state → IsLive state cell → HoldsLive state cell (state.cells cell) state.arrays
HoldsLive-itself state cell refs alive = record {
  is_live = alive;
  slots = λ slot named is. refs.in_slots cell slot named alive is;
  properties = λ place named below is. refs.in_properties cell place named alive below is;
  keys_of_pairs = λ key value is. refs.keys_of_pairs cell key value alive is;
  pairs = λ key named is. refs.in_pairs cell key named alive is;
  array_is_live = λ array is. refs.arrays_are_live cell array alive is;
  array_is_own = λ other array apart other_alive other_is is. apart (refs.arrays_are_own other cell array other_alive alive other_is is);
  others_stay = λ other array apart other_alive is. refs.arrays_are_live other array other_alive is;
}

-- a live cell has another value in a slot, in a property or under a key
pub RefsAreLive-slot : (state : State) (source : Val) (slot : ℕ) (value : Val) → RefsAreLive state → IsLiveValue state source → IsLiveValue state value →
    RefsAreLive (put_slot state source slot value)
RefsAreLive-slot state Empty slot value refs source_is_live alive = refs
RefsAreLive-slot state (Int n) slot value refs source_is_live alive = refs
RefsAreLive-slot state (Cell cell) slot value refs source_is_live alive =
    let before = HoldsLive-itself state cell refs (source_is_live cell refl) in
    RefsAreLive-cell state cell (record (state.cells cell) { slots = put_at (state.cells cell).slots slot value }) state.arrays refs (record {
      is_live = before.is_live;
      slots = λ s named. put_at_elim (λ n v. v ≡ Cell named → IsLive state named) (state.cells cell).slots slot value (alive named) (λ n other. before.slots n named) s;
      properties = before.properties;
      keys_of_pairs = before.keys_of_pairs;
      pairs = before.pairs;
      array_is_live = before.array_is_live;
      array_is_own = before.array_is_own;
      others_stay = before.others_stay;
    })

pub RefsAreLive-property : (state : State) (cell key : ℕ) (value : Val) → RefsAreLive state → IsLive state cell → IsLiveValue state value →
    RefsAreLive (put_property state cell key value)
RefsAreLive-property state cell key value refs cell_is_live alive =
    let before = HoldsLive-itself state cell refs cell_is_live in
    let place = place_of (state.cells cell).keys key in
    RefsAreLive-cell state cell (record (state.cells cell) { properties = put_at (state.cells cell).properties place value }) state.arrays refs (record {
      is_live = before.is_live;
      slots = before.slots;
      properties = λ p named below. put_at_elim (λ n v. n < length (state.cells cell).keys → v ≡ Cell named → IsLive state named) (state.cells cell).properties place value
          (λ _. alive named) (λ n other within. before.properties n named within) p below;
      keys_of_pairs = before.keys_of_pairs;
      pairs = before.pairs;
      array_is_live = before.array_is_live;
      array_is_own = before.array_is_own;
      others_stay = before.others_stay;
    })

pub RefsAreLive-pair : (state : State) (table key : ℕ) (held : Option Val) → RefsAreLive state → IsLive state table → IsLive state key →
    ((value : Val) → held ≡ Some value → IsLiveValue state value) → RefsAreLive (put_pair state table key held)
RefsAreLive-pair state table key held refs table_is_live key_is_live alive =
    let before = HoldsLive-itself state table refs table_is_live in
    RefsAreLive-cell state table (record (state.cells table) { pairs = put_at (state.cells table).pairs key held }) state.arrays refs (record {
      is_live = before.is_live;
      slots = before.slots;
      properties = before.properties;
      keys_of_pairs = λ k value. put_at_elim (λ n v. v ≡ Some value → IsLive state n) (state.cells table).pairs key held
          (λ is. key_is_live) (λ n other. before.keys_of_pairs n value) k;
      pairs = λ k named. put_at_elim (λ n v. v ≡ Some (Cell named) → IsLive state named) (state.cells table).pairs key held
          (λ is. alive (Cell named) is named refl) (λ n other. before.pairs n named) k;
      array_is_live = before.array_is_live;
      array_is_own = before.array_is_own;
      others_stay = before.others_stay;
    })

-- a live cell is of another group
pub RefsAreLive-group : (state : State) (cell group : ℕ) → RefsAreLive state → IsLive state cell →
    RefsAreLive (put_cell state cell (record (state.cells cell) { group = group }))
RefsAreLive-group state cell group refs alive =
    let before = HoldsLive-itself state cell refs alive in
    RefsAreLive-cell state cell (record (state.cells cell) { group = group }) state.arrays refs (record {
      is_live = before.is_live;
      slots = before.slots;
      properties = before.properties;
      keys_of_pairs = before.keys_of_pairs;
      pairs = before.pairs;
      array_is_live = before.array_is_live;
      array_is_own = before.array_is_own;
      others_stay = before.others_stay;
    })

-- a cell is born, in a register
pub RefsAreLive-born : (state : State) (who dst cell : ℕ) → RefsAreLive state → RefsAreLive (put_register (put_cell state cell (blank_cell live)) who dst (Cell cell))
RefsAreLive-born state who dst cell refs =
    RefsAreLive-register (put_cell state cell (blank_cell live)) who dst (Cell cell)
    (RefsAreLive-cell state cell (blank_cell live) state.arrays refs (record {
      is_live = refl;
      slots = λ slot named is. absurd (cc);
      properties = λ place named below is. absurd (cc);
      keys_of_pairs = λ key value is. absurd (cc);
      pairs = λ key named is. absurd (cc);
      array_is_live = λ array is. absurd (cc);
      array_is_own = λ other array apart alive other_is is. cc;
      others_stay = λ other array apart alive is. refs.arrays_are_live other array alive is;
    }))
    (λ named is. let same : cell ≡ named = cc in
    subst (IsLive (put_cell state cell (blank_cell live))) same (put_at_elim (λ n c. n ≡ cell → c.status ≡ live) state.cells cell (blank_cell live) (λ _. refl) (λ n other is_cell. absurd (other is_cell)) cell refl))
