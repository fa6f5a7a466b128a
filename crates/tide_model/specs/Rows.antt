-- Small histories worked out by hand, by which the definitions are checked.
use Rattle.std.specs.Prelude.{◌≡◌, refl, true, List, [], ◌∷◌, take, None, Some}
use Rattle.tide_model.specs.declared.val.Val.TheVariants.{Empty, Cell}
use Rattle.tide_model.specs.declared.op.Op.TheVariants.{Alloc, Get, Put, Drop, Collect, Retire}
use Rattle.tide_model.specs.declared.op.Reply.TheVariants.{Done, Born, Seen, Asked, Refused}
use Rattle.tide_model.specs.declared.op.Refusal.TheVariants.{NotCell, NoSlot, Full}
use Rattle.tide_model.specs.declared.entry.Entry.TheVariants.{Call, Begin, Pause, End, Sweep}
use Rattle.tide_model.specs.declared.entry.Event.{Event}
use Rattle.tide_model.specs.Layout.{Layout, first_block_of, blocks_of, cell_count, block_of_array, class_of}
use Rattle.tide_model.specs.State.{live, dead, free, idle, marking}
use Rattle.tide_model.specs.Graph.{is_root, in_register}
use Rattle.tide_model.specs.History.{plain, state_after, state_at, moment_after_last, is_begin}
use Rattle.tide_model.specs.Cycle.{begin_count, StandsEnd, live_count}
use Rattle.tide_model.specs.Script.{retry_of, script_of}
use Rattle.tide_model.specs.Answer.{IsAnswer}
use Rattle.tide_model.specs.Refused.{refusal_of, no_shapes}
use Rattle.tide_model.specs.Room.{window_start}

-- one block of cells with two slots, one of tables, and two of arrays
abbrev pub small : Layout
small = record {
  cell_blocks = 1 ∷ 0 ∷ 0 ∷ 0 ∷ 1 ∷ [];
  array_blocks = 1 ∷ 1 ∷ 0 ∷ 0 ∷ 0 ∷ [];
  registers = 4;
  strong = 2;
  weak = 2;
  mutators = 1;
  visitors = 0;
}

-- the tables stand in block 1, and the arrays of the first two classes in blocks 2 and 3
pub places_of_small : (first_block_of small 4 ≡ 1) × (blocks_of small 4 ≡ 1) × (first_block_of small 6 ≡ 3) × (blocks_of small 7 ≡ 0) × (cell_count small ≡ 128) × (block_of_array small 70 ≡ 3)
places_of_small = (refl, refl, refl, refl, refl, refl)

-- a cell is made and kept by its register, and is freed once its mutator has retired
abbrev pub kept_then_freed : List Event
kept_then_freed =
    plain (Call 0 (Alloc 0 0) (Born 0)) ∷ plain (Call 0 Collect Asked)
    ∷ plain (Begin 1 true) ∷ plain (Pause 1) ∷ plain (End 1 [])
    ∷ plain (Call 0 Retire Done)
    ∷ plain (Begin 2 true) ∷ plain (Pause 0) ∷ plain (End 2 (0 ∷ [])) ∷ plain (Sweep 0) ∷ []

-- what became of the cell, and when a cycle marked
pub states_of_kept_then_freed :
    ((state_at small kept_then_freed 2).registers 0 0 ≡ Cell 0)
    × (((state_at small kept_then_freed 5).cells 0).status ≡ live)
    × (((state_at small kept_then_freed 9).cells 0).status ≡ dead)
    × (((state_at small kept_then_freed 10).cells 0).status ≡ free)
    × ((state_at small kept_then_freed 4).phase ≡ marking 1)
    × ((state_after small kept_then_freed).phase ≡ idle)
states_of_kept_then_freed = (refl, refl, refl, refl, refl, refl)

-- one cell lives before the second end, and none after it
pub counts_of_kept_then_freed :
    (live_count small (state_at small kept_then_freed 8) ≡ 1) × (live_count small (state_at small kept_then_freed 9) ≡ 0) × (begin_count kept_then_freed ≡ 2)
counts_of_kept_then_freed = (refl, refl, refl)

pub script_of_kept_then_freed : script_of 0 kept_then_freed ≡ Alloc 0 0 ∷ Collect ∷ Retire ∷ []
script_of_kept_then_freed = refl

-- the last cycle began at moment 7, and a mutator without entries has the whole history as its window
pub moments_of_kept_then_freed :
    (moment_after_last (λ event. is_begin event.entry) kept_then_freed ≡ 7) × (window_start 0 kept_then_freed ≡ 6) × (window_start 1 kept_then_freed ≡ 0)
moments_of_kept_then_freed = (refl, refl, refl)

-- the first cycle may not free the cell that a register holds
pub held_cell_is_not_freed : StandsEnd small (take 4 kept_then_freed) 1 (0 ∷ []) → ⊥
held_cell_is_not_freed stands = stands.frees 0 refl (is_root 0 (in_register 0 0 refl refl))

-- a refusal for room is tried once more, and counts once in the script
abbrev refused_twice : List Event
refused_twice =
    plain (Call 0 (Alloc 0 1) (Refused (Full 1))) ∷ plain (Begin 1 true) ∷ plain (Pause 0) ∷ plain (End 1 [])
    ∷ plain (Call 0 (Alloc 0 1) (Refused (Full 1))) ∷ plain (Call 0 Retire Done) ∷ []

pub script_of_refused_twice :
    (script_of 0 refused_twice ≡ Alloc 0 1 ∷ Retire ∷ []) × (retry_of 0 (take 1 refused_twice) ≡ Some (Alloc 0 1)) × (retry_of 0 (take 5 refused_twice) ≡ None)
script_of_refused_twice = (refl, refl, refl)

-- the class of a cell, also beside classes without blocks
pub classes_of_small : (class_of small 0 ≡ 0) × (class_of small 63 ≡ 0) × (class_of small 64 ≡ 4) × (class_of small 127 ≡ 4)
classes_of_small = (refl, refl, refl, refl)

-- two cells that hold each other, which nothing else holds
abbrev ring : List Event
ring =
    plain (Call 0 (Alloc 0 0) (Born 0)) ∷ plain (Call 0 (Alloc 1 0) (Born 1))
    ∷ plain (Call 0 (Put 0 0 1) Done) ∷ plain (Call 0 (Put 1 0 0) Done)
    ∷ plain (Call 0 (Drop 0) Done) ∷ plain (Call 0 (Drop 1) Done) ∷ plain (Call 0 Collect Asked)
    ∷ plain (Begin 1 true) ∷ plain (Pause 0) ∷ []

pub slots_of_ring :
    (((state_after small ring).cells 0).slots 0 ≡ Cell 1) × (((state_after small ring).cells 1).slots 0 ≡ Cell 0) × (((state_after small ring).cells 1).slots 1 ≡ Empty)
    × ((state_after small ring).registers 0 1 ≡ Empty) × ((state_at small ring 4).registers 0 1 ≡ Cell 1)
slots_of_ring = (refl, refl, refl, refl, refl)

-- what a slot answers, and why it doesn't
pub answers_in_ring :
    IsAnswer small no_shapes (state_at small ring 4) 0 (Get 2 0 0) (Seen (Cell 1)) None
    × (refusal_of small no_shapes (state_after small ring) 0 (Get 2 0 0) ≡ Some (NotCell 0))
    × (refusal_of small no_shapes (state_at small ring 4) 0 (Put 0 2 1) ≡ Some (NoSlot 2))
answers_in_ring = ((refl, refl), refl, refl)

pub slot_is_not_another : IsAnswer small no_shapes (state_at small ring 4) 0 (Get 2 0 1) (Seen (Cell 1)) None → ⊥
slot_is_not_another answer = let e : Cell 1 ≡ Empty = answer.1 in absurd (cc)
