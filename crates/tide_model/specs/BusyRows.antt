-- A store with everything in it, worked out by hand: what a cycle's end and a sweep leave of it, and what it keeps.
use Rattle.std.specs.Prelude.{◌≡◌, refl, true, false, [], ◌∷◌, None, Some}
use Rattle.std.proofs.Common.{lit<}
use Rattle.tide_model.specs.declared.val.Val.TheVariants.{Empty, Cell}
use Rattle.tide_model.specs.declared.op.Op.TheVariants.{Collect}
use Rattle.tide_model.specs.declared.op.Reply.TheVariants.{Asked}
use Rattle.tide_model.specs.declared.entry.Entry.TheVariants.{Call, Open}
use Rattle.tide_model.specs.Numbers.{put_at}
use Rattle.tide_model.specs.State.{State, free, live, spent, dead, blank_cell, empty_state}
use Rattle.tide_model.specs.Graph.{in_register, in_handle, IsLink, in_property, graph_of, IsRetained, is_root, by_pair, by_group_mate, no_cell}
use Rattle.tide_model.specs.History.{plain, after_end, after_sweep}
use Rattle.tide_model.specs.Cycle.{HasDead, dead_array}
use Rattle.tide_model.specs.Room.{IsFullBlock, window_start}
use Rattle.tide_model.specs.Rows.{small}

-- cell 0 in a register, cell 1 with an array and in a weak handle, cell 2 the value of a pair under cell 0, cell 3
-- of cell 2's group; the table 64 in a strong handle; array 5 cell 1's, and array 6 replaced
abbrev busy : State
busy = record empty_state {
  registers = put_at (λ _ _. Empty) 0 (put_at (λ _. Empty) 1 (Cell 0));
  strong = put_at (λ _. Empty) 0 (Cell 64);
  weak = put_at (λ _. Empty) 1 (Cell 1);
  cells = put_at (put_at (put_at (put_at (put_at (λ _. blank_cell free)
      0 (blank_cell live))
      1 (record (blank_cell live) { keys = 7 ∷ []; properties = λ _. Cell 0; array = Some 5 }))
      2 (record (blank_cell live) { group = 9 }))
      3 (record (blank_cell live) { group = 9 }))
      64 (record (blank_cell live) { pairs = put_at (λ _. None) 0 (Some (Cell 2)) });
  arrays = put_at (put_at (λ _. free) 5 live) 6 spent;
}

-- an end that frees cell 1
pub end_of_busy :
    ((after_end busy (1 ∷ [])).weak 1 ≡ Empty)
    × ((after_end busy (2 ∷ [])).weak 1 ≡ Cell 1)
    × ((after_end busy (1 ∷ [])).arrays 5 ≡ dead)
    × ((after_end busy []).arrays 5 ≡ live)
    × ((after_end busy []).arrays 6 ≡ dead)
    × ((after_end busy []).arrays 7 ≡ free)
    × (((after_end busy (0 ∷ [])).cells 64).pairs 0 ≡ None)
    × (((after_end busy (1 ∷ [])).cells 64).pairs 0 ≡ Some (Cell 2))
    × (((after_end busy (1 ∷ [])).cells 1).status ≡ dead)
    × (((after_end busy (1 ∷ [])).cells 0).status ≡ live)
end_of_busy = (refl, refl, refl, refl, refl, refl, refl, refl, refl, refl)

-- the arrays' first block is block 2
pub sweep_of_busy :
    ((after_sweep small (after_end busy (1 ∷ [])) 2).arrays 5 ≡ free)
    × ((after_sweep small (after_end busy (1 ∷ [])) 0).arrays 5 ≡ dead)
    × (((after_sweep small (after_end busy (1 ∷ [])) 2).cells 1).status ≡ dead)
    × (((after_sweep small (after_end busy (1 ∷ [])) 0).cells 1).status ≡ free)
    × (((after_sweep small (after_end busy (1 ∷ [])) 0).cells 1).array ≡ None)
sweep_of_busy = (refl, refl, refl, refl, refl)

-- a replaced array alone makes its block one to sweep, once a cycle has ended
pub replaced_array_is_swept : HasDead small (after_end busy []) 2
replaced_array_is_swept = dead_array 6 (lit< tt) refl refl

-- the pair's value is kept by its table and its key, and a member of its group by it
pub pair_is_kept : IsRetained (graph_of busy) no_cell 2
pair_is_kept = by_pair 64 0 2 (is_root 64 (in_handle 0 refl)) (is_root 0 (in_register 0 1 refl refl)) (record { is_live = refl; has_pair = refl })

pub group_mate_is_kept : IsRetained (graph_of busy) no_cell 3
group_mate_is_kept = by_group_mate 2 3 pair_is_kept (record { one_is_live = refl; other_is_live = refl; same_group = refl; in_a_group = λ same. absurd (cc) })

-- a property is a link, and a place past the keys is none
pub property_is_link : IsLink busy 1 0
property_is_link = in_property 0 refl (lit< tt) refl

-- the window begins at an Open that is later than the mutator's own entry
pub window_after_open :
    (window_start 0 (plain (Call 0 Collect Asked) ∷ plain (Open 1 4) ∷ plain (Call 1 Collect Asked) ∷ []) ≡ 2)
    × (window_start 1 (plain (Call 0 Collect Asked) ∷ plain (Open 1 4) ∷ plain (Call 1 Collect Asked) ∷ []) ≡ 3)
window_after_open = (refl, refl)

-- the first array class isn't full while array 7 is free
pub array_block_is_not_full : IsFullBlock small busy 2 → ⊥
array_block_is_not_full full = let bad : true ≡ false = full.arrays 7 (lit< tt) refl in cc
