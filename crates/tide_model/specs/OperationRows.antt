-- What each operation on claims, properties, handles, pairs and groups answers and leaves, worked out by hand.
use Rattle.std.specs.Prelude.{ℕ, ◌≡◌, refl, true, false, Option, [], ◌∷◌, None, Some, nat_lt, if◌then◌else◌}
use Rattle.std.proofs.Common.{arith, lit<, lit≤}
use Rattle.tide_model.specs.declared.val.Val.{Val}
use Rattle.tide_model.specs.declared.val.Val.TheVariants.{Empty, Int, Cell}
use Rattle.tide_model.specs.declared.op.Op.TheVariants.{Table, Claim, Release, Unclaim, Add, GetProp, SetProp, StrongSet, StrongGet, WeakSet, PairSet, PairGet, PairDel, Group, Retire}
use Rattle.tide_model.specs.declared.op.Reply.TheVariants.{Done, Born, Seen, Refused}
use Rattle.tide_model.specs.declared.op.Refusal.TheVariants.{NotCell, IsTable, NotTable, Held, NotHeld, Present, Absent, NoShape, PairsFull, ClaimsFull, Full}
use Rattle.tide_model.specs.Layout.{Layout, capacity_of, array_class_for, array_capacity_of, class_of_array, slots_of}
use Rattle.tide_model.specs.Numbers.{put_at}
use Rattle.tide_model.specs.State.{State, free, live, spent, blank_cell, empty_state}
use Rattle.tide_model.specs.Refused.{ShapeLists, refusal_of}
use Rattle.tide_model.specs.Applied.{after_call}
use Rattle.tide_model.specs.Answer.{IsAnswer}
use Rattle.tide_model.specs.Rows.{small}

-- the capacities are 4, 8, 16, 32 and 64, of the classes 5 to 9
pub capacities :
    (capacity_of 0 ≡ 0) × (capacity_of 1 ≡ 4) × (capacity_of 4 ≡ 4) × (capacity_of 5 ≡ 8) × (capacity_of 16 ≡ 16) × (capacity_of 33 ≡ 64) × (capacity_of 64 ≡ 64)
    × (array_class_for 4 ≡ 5) × (array_class_for 5 ≡ 6) × (array_class_for 64 ≡ 9) × (array_capacity_of 7 ≡ 16) × (slots_of 3 ≡ 16) × (slots_of 4 ≡ 0)
    × (class_of_array small 63 ≡ 5) × (class_of_array small 64 ≡ 6)
capacities = (refl, refl, refl, refl, refl, refl, refl, refl, refl, refl, refl, refl, refl, refl, refl)

-- two mutators on the small store
abbrev pub shared : Layout
shared = record small { mutators = 2 }

-- the shapes of one path of the keys 0, 1, 2, 3 and 4
abbrev pub path : ShapeLists
path = [] ∷ (0 ∷ []) ∷ (0 ∷ 1 ∷ []) ∷ (0 ∷ 1 ∷ 2 ∷ []) ∷ (0 ∷ 1 ∷ 2 ∷ 3 ∷ []) ∷ (0 ∷ 1 ∷ 2 ∷ 3 ∷ 4 ∷ []) ∷ []

-- Mutator 0 holds cell 0, the table 64 and the number 7, and claims both cells. Mutator 1 holds the same cells and
-- cell 1. Cell 0 has the property 5 of key 0, and the table the pair of cell 0 and 7.
abbrev pub working : State
working = record empty_state {
  registers = put_at (put_at (λ _ _. Empty)
      0 (put_at (put_at (put_at (λ _. Empty) 0 (Cell 0)) 1 (Cell 64)) 2 (Int 7)))
      1 (put_at (put_at (put_at (λ _. Empty) 0 (Cell 0)) 1 (Cell 64)) 2 (Cell 1));
  claims = put_at (λ _. []) 0 (0 ∷ 64 ∷ []);
  cells = put_at (put_at (put_at (λ _. blank_cell free)
      0 (record (blank_cell live) { keys = 0 ∷ []; properties = put_at (λ _. Empty) 0 (Int 5); array = Some 3 }))
      1 (blank_cell live))
      64 (record (blank_cell live) { pairs = put_at (λ _. None) 0 (Some (Int 7)) });
  arrays = put_at (λ _. free) 3 live;
}

-- a cell is claimed once, by whom ever, and only its holder releases it
pub refusals_of_claims :
    (refusal_of shared path working 0 (Claim 3) ≡ Some (NotCell 3))
    × (refusal_of shared path working 0 (Claim 0) ≡ Some (Held 0))
    × (refusal_of shared path working 1 (Claim 0) ≡ Some (Held 0))
    × (refusal_of shared path working 1 (Claim 2) ≡ None)
    × (refusal_of shared path working 0 (Release 2) ≡ Some (NotCell 2))
    × (refusal_of shared path working 0 (Release 1) ≡ None)
    × (refusal_of shared path working 1 (Release 1) ≡ Some NotHeld)
    × (refusal_of shared path working 0 Unclaim ≡ None)
    × (refusal_of shared path working 1 Unclaim ≡ Some NotHeld)
refusals_of_claims = (refl, refl, refl, refl, refl, refl, refl, refl, refl)

-- eight claims of mutator 1; that a cell is held is told first
abbrev pub claiming : State
claiming = record working { claims = put_at working.claims 1 (2 ∷ 3 ∷ 4 ∷ 5 ∷ 6 ∷ 7 ∷ 8 ∷ 9 ∷ []) }

pub refusals_of_ninth_claim :
    (refusal_of shared path claiming 1 (Claim 2) ≡ Some ClaimsFull) × (refusal_of shared path claiming 1 (Claim 0) ≡ Some (Held 0))
refusals_of_ninth_claim = (refl, refl)

-- the refusals on properties in their order: no cell, a table, not held, the key there or not there, no such shape
pub refusals_of_properties :
    (refusal_of shared path working 0 (Add 2 1 2) ≡ Some (NotCell 2))
    × (refusal_of shared path working 1 (Add 1 1 2) ≡ Some IsTable)
    × (refusal_of shared path working 1 (Add 0 0 2) ≡ Some NotHeld)
    × (refusal_of shared path working 0 (Add 0 0 2) ≡ Some Present)
    × (refusal_of shared path working 0 (Add 0 2 2) ≡ Some NoShape)
    × (refusal_of shared path working 0 (Add 0 1 2) ≡ None)
    × (refusal_of shared path working 0 (GetProp 3 0 1) ≡ Some Absent)
    × (refusal_of shared path working 0 (GetProp 3 0 0) ≡ None)
    × (refusal_of shared path working 1 (SetProp 0 1 0) ≡ Some NotHeld)
    × (refusal_of shared path working 0 (SetProp 0 0 1) ≡ None)
refusals_of_properties = (refl, refl, refl, refl, refl, refl, refl, refl, refl, refl)

-- a table with the pairs of eight key cells, 10 to 17
abbrev pub full_table : State
full_table = put_pairs (λ key. if nat_lt key 10 then None else if nat_lt key 18 then Some Empty else None)
  where
    put_pairs : (ℕ → Option Val) → State
    put_pairs pairs = record working { cells = put_at working.cells 64 (record (blank_cell live) { pairs = pairs }) }

-- the refusals on pairs in their order: the registers as they stand in the text, no table, not held, and the pair there
-- or not there; a pair that is there may be set in a full table
pub refusals_of_pairs :
    (refusal_of shared path working 0 (PairSet 3 2 0) ≡ Some (NotCell 3))
    × (refusal_of shared path working 0 (PairSet 0 2 0) ≡ Some (NotCell 2))
    × (refusal_of shared path working 0 (PairSet 0 1 0) ≡ Some NotTable)
    × (refusal_of shared path working 1 (PairGet 3 1 2) ≡ Some NotHeld)
    × (refusal_of shared path working 0 (PairGet 3 1 1) ≡ Some Absent)
    × (refusal_of shared path working 0 (PairGet 3 1 0) ≡ None)
    × (refusal_of shared path working 0 (PairDel 1 1) ≡ Some Absent)
    × (refusal_of shared path working 0 (PairSet 1 1 0) ≡ None)
    × (refusal_of shared path full_table 0 (PairSet 1 1 0) ≡ Some PairsFull)
    × (refusal_of shared path (record full_table { registers = λ _ _. Cell 64 }) 0 (PairGet 1 1 0) ≡ Some Absent)
refusals_of_pairs = (refl, refl, refl, refl, refl, refl, refl, refl, refl, refl)

-- claims are kept in their order, and the oldest ends first
pub claims_after :
    ((after_call working 1 (Claim 2) Done None).claims 1 ≡ 1 ∷ [])
    × ((after_call working 0 (Release 1) Done None).claims 0 ≡ 0 ∷ [])
    × ((after_call working 0 Unclaim Done None).claims 0 ≡ 64 ∷ [])
    × ((after_call working 0 (Claim 0) (Refused (Held 0)) None).claims 0 ≡ 0 ∷ 64 ∷ [])
claims_after = (refl, refl, refl, refl)

-- a second property stands behind the first, which stays; where an array was taken the old one is spent
pub properties_after :
    (((after_call working 0 (Add 0 1 2) Done None).cells 0).keys ≡ 0 ∷ 1 ∷ [])
    × (((after_call working 0 (Add 0 1 2) Done None).cells 0).properties 0 ≡ Int 5)
    × (((after_call working 0 (Add 0 1 2) Done None).cells 0).properties 1 ≡ Int 7)
    × (((after_call working 0 (Add 0 1 2) Done None).cells 0).array ≡ Some 3)
    × (((after_call working 0 (Add 0 1 2) Done (Some 70)).cells 0).array ≡ Some 70)
    × ((after_call working 0 (Add 0 1 2) Done (Some 70)).arrays 3 ≡ spent)
    × ((after_call working 0 (Add 0 1 2) Done (Some 70)).arrays 70 ≡ live)
    × (((after_call working 0 (SetProp 0 0 1) Done None).cells 0).properties 0 ≡ Cell 64)
    × ((after_call working 0 (GetProp 3 0 0) (Seen (Int 5)) None).registers 0 3 ≡ Int 5)
properties_after = (refl, refl, refl, refl, refl, refl, refl, refl, refl)

-- handles, pairs and groups
pub others_after :
    ((after_call working 0 (StrongSet 1 0) Done None).strong 1 ≡ Cell 0)
    × ((after_call working 0 (WeakSet 1 2) Done None).weak 1 ≡ Int 7)
    × ((after_call working 0 (StrongGet 3 1) (Seen Empty) None).registers 0 3 ≡ Empty)
    × (((after_call working 0 (PairSet 1 1 0) Done None).cells 64).pairs 64 ≡ Some (Cell 0))
    × (((after_call working 0 (PairSet 1 1 0) Done None).cells 64).pairs 0 ≡ Some (Int 7))
    × (((after_call working 0 (PairDel 1 0) Done None).cells 64).pairs 0 ≡ None)
    × (((after_call working 0 (Group 0 9) Done None).cells 0).group ≡ 9)
    × (((after_call working 0 (Table 3) (Born 65) None).cells 65).status ≡ live)
    × ((after_call working 0 Retire Done None).active 0 ≡ false)
others_after = (refl, refl, refl, refl, refl, refl, refl, refl, refl)

-- what was read is the answer, and no other value is
pub reads_property : IsAnswer shared path working 0 (GetProp 3 0 0) (Seen (Int 5)) None
reads_property = (refl, refl)

pub reads_pair : IsAnswer shared path working 0 (PairGet 3 1 0) (Seen (Int 7)) None
reads_pair = (refl, refl)

-- a second property finds room in the array of four, and the first one takes an array of that class
pub second_property_takes_none : IsAnswer shared path working 0 (Add 0 1 2) Done None
second_property_takes_none = refl

pub second_property_takes_no_array : IsAnswer shared path working 0 (Add 0 1 2) Done (Some 4) → ⊥
second_property_takes_no_array takes = let bad : false ≡ true = takes.0 in cc

-- the same where cell 0 has no property yet
abbrev pub bare : State
bare = record working { cells = put_at working.cells 0 (blank_cell live) }

pub first_property_takes_array : IsAnswer shared path bare 0 (Add 0 0 2) Done (Some 4)
first_property_takes_array = (refl, record { of_class = record { from = lit≤ tt; below = lit< tt }; is_free = refl })

-- an array of the next class but one, and one that is live, are none for it
pub larger_array_is_not_taken : IsAnswer shared path bare 0 (Add 0 0 2) Done (Some 70) → ⊥
larger_array_is_not_taken takes = let below = takes.1.of_class.below in omega (arith, below)

pub live_array_is_not_taken : IsAnswer shared path bare 0 (Add 0 0 2) Done (Some 3) → ⊥
live_array_is_not_taken takes = let clash = takes.1.is_free in cc

-- a fifth property takes an array of eight
abbrev pub of_four : State
of_four = record working {
  cells = put_at working.cells 0 (record (blank_cell live) { keys = 0 ∷ 1 ∷ 2 ∷ 3 ∷ []; array = Some 3 });
}

pub fifth_property_takes_array_of_eight : IsAnswer shared path of_four 0 (Add 0 4 2) Done (Some 70)
fifth_property_takes_array_of_eight = (refl, record { of_class = record { from = lit≤ tt; below = lit< tt }; is_free = refl })

pub first_property_takes_one : IsAnswer shared path bare 0 (Add 0 0 2) Done None → ⊥
first_property_takes_one takes = let bad : true ≡ false = takes in cc

pub array_of_next_class_is_none : IsAnswer shared path bare 0 (Add 0 0 2) (Refused (Full 6)) None → ⊥
array_of_next_class_is_none full = let bad : 6 ≡ 5 = full.1.1 in cc

-- a mutator with a claim may not retire
pub retires_with_a_claim : IsAnswer shared path working 0 Retire Done None → ⊥
retires_with_a_claim retires = let bad = retires.1 in cc
