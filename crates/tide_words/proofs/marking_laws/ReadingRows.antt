-- A heap of two cells, worked out by hand, and some that read as nothing.
use Rattle.std.proofs.Common.{ℕ, zero, suc, ◌≡◌, ◌≢◌, ◌+◌, ◌-◌, ◌/◌, ◌%◌, ◌^◌, ◌<◌, ◌≤◌, ◌==◌, refl, sym, ◌∙◌, ap, subst, arith, [], ◌∷◌, inl, inr, length, Contains, Some}
use Rattle.std.proofs.lemmas.Nat.Bits.{bit_at-zero, bit_at_mask_inside, bit_at_ones}
use Rattle.std.specs.Int.{bit_at}
use Rattle.std.specs.Prelude.{◌⊎◌, if◌then◌else◌}
use Rattle.tide_model.specs.declared.val.Val.{Val}
use Rattle.tide_model.specs.declared.val.Val.TheVariants.{Empty, Cell}
use Rattle.tide_model.specs.Graph.{IsLink, in_slot}
use Rattle.tide_model.specs.Layout.{Layout}
use Rattle.tide_model.specs.Numbers.{put_at}
use Rattle.tide_model.specs.References.{IsLive, RefsAreLive}
use Rattle.tide_model.specs.Refused.{ShapeLists, no_shapes}
use Rattle.tide_model.specs.State.{State, CellState, free, live, dead, is_free, idle, marking, blank_cell, empty_state}
use Rattle.tide_model.proofs.ReferenceLaws.{put_at_elim}
use Rattle.tide_layout.specs.declared.region.Region.TheVariants.{Base, Phase, Colour, Free, Dead, Registers, Structure, Claim, Group, Slots}
use Rattle.tide_words.specs.heap.EmptyHeap.{empty_heap}
use Rattle.tide_words.specs.heap.Heap.{Heap, write}
use Rattle.tide_words.specs.marking.Marking.{Marking}
use Rattle.tide_words.specs.heap.Reading.{CellReads, ReadsAs, IsValueOf, status_by, cell_status, slot_word}
use Rattle.tide_layout.specs.Region.{block_count, index_of_register}
use Rattle.tide_layout.specs.Slots.{index_of_slot, width_of_cell}
use Rattle.tide_words.specs.forms.ValueWord.{val_word}
use Rattle.tide_words.proofs.form_laws.FormLaws.{same_cell_from_val_word}
use Rattle.tide_words.proofs.heap_laws.HeapLaws.{write-same, write-other_index}
use Rattle.tide_words.proofs.marking_laws.MarkingLaws.{Marking-greyed}
use Rattle.tide_layout.proofs.SlotPlaces.{index_of_slot-alone}

-- one block of cells with two slots, and one mutator with one register
abbrev pub small : Layout
small = record {
  cell_blocks = 1 ∷ 0 ∷ 0 ∷ 0 ∷ 0 ∷ [];
  array_blocks = 0 ∷ 0 ∷ 0 ∷ 0 ∷ 0 ∷ [];
  registers = 1;
  strong = 0;
  weak = 0;
  mutators = 1;
  visitors = 0;
}

-- cell 0 has cell 1 in its first slot
abbrev first_cell : CellState
first_cell = record (blank_cell live) { slots = put_at (λ slot. Empty) 0 (Cell 1) }

-- cells 0 and 1 are live, the register has cell 0, and the second cycle marks
abbrev pub two_cells : State
two_cells = record empty_state {
  registers = put_at (λ who register. Empty) 0 (put_at (λ register. Empty) 0 (Cell 0));
  cells = put_at (put_at (λ cell. blank_cell free) 0 first_cell) 1 (blank_cell live);
  phase = marking 2;
}

-- its words
abbrev pub worked : Heap
worked = write (write (write (write empty_heap Phase 0 5) Registers 0 2) Free 0 (2 ^ 64 - 2 ^ 2)) Slots (index_of_slot small 0 0) 6

-- what holds of the two cells and of free ones holds of all
each_cell : (P : ℕ → CellState → Type 0) → P 0 first_cell → P 1 (blank_cell live) → ((cell : ℕ) → cell ≢ 0 → cell ≢ 1 → P cell (blank_cell free)) →
    (cell : ℕ) → P cell (two_cells.cells cell)
each_cell P first second others cell =
    put_at_elim P (put_at (λ cell. blank_cell free) 0 first_cell) 1 (blank_cell live) second
    (λ n not_one. put_at_elim (λ n held. n ≢ 1 → P n held) (λ cell. blank_cell free) 0 first_cell (λ other. first) (λ n not_zero other. others n not_zero other) n not_one) cell

-- what holds of the register and of empty ones holds of all
each_register : (P : ℕ → ℕ → Val → Type 0) → P 0 0 (Cell 0) → ((who register : ℕ) → (who ≢ 0) ⊎ (register ≢ 0) → P who register Empty) →
    (who register : ℕ) → P who register (two_cells.registers who register)
each_register P here others who register =
    put_at_elim (λ who own. P who register (own register)) (λ who register. Empty) 0 (put_at (λ register. Empty) 0 (Cell 0))
    (put_at_elim (λ register value. P 0 register value) (λ register. Empty) 0 (Cell 0) here (λ n other. others 0 n (inr other)) register)
    (λ n other. others n register (inl other)) who

-- no list without cells has one
nothing_in : (cell : ℕ) → Contains {X = ℕ} [] cell → ⊥
nothing_in cell at = let below = at.1 in omega (arith, below)

-- each cell but the first two is free by its bit
free_by_bit : (cell : ℕ) → cell ≢ 0 → cell ≢ 1 → cell < 64 → free ≡ cell_status worked cell
free_by_bit cell not_zero not_one within =
    let block : cell / 64 ≡ 0 = omega (arith, within) in
    sym (ap (λ (block : ℕ). status_by (worked Free block) (worked Dead block) (cell % 64) live) block
    ∙ ap (λ (bit : ℕ). if bit == 1 then free else (if bit_at 0 (cell % 64) == 1 then dead else live))
    (bit_at_mask_inside 2 64 (cell % 64) (omega (arith, not_zero, not_one, within)) (omega arith)))

-- another slot than the first of cell 0
other_slot : (cell slot : ℕ) → slot < width_of_cell small cell → (cell ≢ 0) ⊎ (slot ≢ 0) → slot_word small worked cell slot ≡ 0
other_slot cell slot within apart =
    write-other_index (write (write (write empty_heap Phase 0 5) Registers 0 2) Free 0 (2 ^ 64 - 2 ^ 2)) Slots (index_of_slot small 0 0) (index_of_slot small cell slot) 6
    (λ same. (let both = index_of_slot-alone small 0 cell 0 slot (omega arith) within same in elim apart [ inl other ↦ other both.0 | inr other ↦ other both.1 ]))

-- the first slot of cell 0
pub first_slot : slot_word small worked 0 0 ≡ 6
first_slot = write-same (write (write (write empty_heap Phase 0 5) Registers 0 2) Free 0 (2 ^ 64 - 2 ^ 2)) Slots (index_of_slot small 0 0) 6

-- what the slots of the first cell hold
slots_of_first : (slot : ℕ) → slot < 2 → IsValueOf (first_cell.slots slot) (slot_word small worked 0 slot)
slots_of_first zero below = record { number = omega arith; is_word = sym first_slot }
slots_of_first (suc zero) below = record { number = tt; is_word = sym (other_slot 0 1 (omega arith) (inr (λ same. omega (arith, same)))) }
slots_of_first (suc (suc slot)) below = absurd (omega (arith, below))

-- the slots that the first cell lacks
slots_past_first : (slot : ℕ) → 2 ≤ slot → first_cell.slots slot ≡ Empty
slots_past_first = put_at_elim (λ slot value. 2 ≤ slot → value ≡ Empty) (λ slot. Empty) 0 (Cell 1) (λ past. absurd (omega (arith, past))) (λ slot other past. refl)

-- what the words say of the first cell
first_reads : CellReads small no_shapes worked 0 first_cell
first_reads = record {
  status = refl;
  zeroed = λ is_free. absurd (cc);
  taken = λ not_free. record {
    keys = record { shape = 0; is_shape = refl; few_shapes = omega arith; few_keys = omega arith; is_word = refl };
    array = refl;
    group = refl;
    group_number = omega arith;
    slots = λ slot below. slots_of_first slot (omega (arith, below));
    past_slots = λ slot past. slots_past_first slot (omega (arith, past));
    table = λ is_one. absurd (cc);
    no_table = λ isnt key. refl;
  };
  properties = λ alive place below. absurd (omega (arith, below));
}

-- of the second, which has nothing
second_reads : CellReads small no_shapes worked 1 (blank_cell live)
second_reads = record {
  status = refl;
  zeroed = λ is_free. absurd (cc);
  taken = λ not_free. record {
    keys = record { shape = 0; is_shape = refl; few_shapes = omega arith; few_keys = omega arith; is_word = refl };
    array = refl;
    group = refl;
    group_number = omega arith;
    slots = λ slot below. record { number = tt; is_word = sym (other_slot 1 slot (omega (arith, below)) (inl (λ same. omega (arith, same)))) };
    past_slots = λ slot past. refl;
    table = λ is_one. absurd (cc);
    no_table = λ isnt key. refl;
  };
  properties = λ alive place below. absurd (omega (arith, below));
}

-- and of all others, which are free
free_reads : (cell : ℕ) → cell ≢ 0 → cell ≢ 1 → cell < 64 → CellReads small no_shapes worked cell (blank_cell free)
free_reads cell not_zero not_one within = record {
  status = free_by_bit cell not_zero not_one within;
  zeroed = λ is_free. record { structure = refl; array = refl; claim = refl; group = refl; slots = λ slot has. other_slot cell slot has.slot_within (inl not_zero) };
  taken = λ not_free. absurd (cc);
  properties = λ alive. absurd (cc);
}

-- the words read as the state
reads : ReadsAs small no_shapes worked two_cells
reads = record {
  roots = record {
    phase = refl;
    active = λ who within. refl;
    registers = each_register (λ who register value. who < 1 → register < 1 → IsValueOf value (worked Registers (index_of_register small who register)))
        (λ in_mutators in_registers. record { number = omega arith; is_word = refl })
        (λ who register apart in_mutators in_registers. absurd (elim apart [ inl other ↦ other (omega (arith, in_mutators)) | inr other ↦ other (omega (arith, in_registers)) ]));
    strong = λ handle within. absurd (omega (arith, within));
    weak = λ handle within. absurd (omega (arith, within));
    past_active = λ who past. refl;
    past_registers = each_register (λ who register value. (1 ≤ who) ⊎ (1 ≤ register) → value ≡ Empty)
        (λ past. absurd (elim past [ inl more ↦ omega (arith, more) | inr more ↦ omega (arith, more) ]))
        (λ who register apart past. refl);
    past_strong = λ handle past. refl;
    past_weak = λ handle past. refl;
  };
  parts = record {
    cells = each_cell (λ cell held. cell < 64 → CellReads small no_shapes worked cell held) (λ within. first_reads) (λ within. second_reads) free_reads;
    arrays = record {
      named = λ array within. absurd (omega (arith, within));
      unnamed = λ array within. absurd (omega (arith, within));
    };
    claims = record {
      named = λ cell who within. ((λ is. absurd (omega (arith, is))), (λ at. absurd (nothing_in cell at)));
      unnamed = λ cell within alone. refl;
    };
    apart = λ block bit within few is_free. bit_at-zero bit;
    past_cells = each_cell (λ cell held. 64 ≤ cell → held ≡ blank_cell free) (λ past. absurd (omega (arith, past))) (λ past. absurd (omega (arith, past)))
        (λ cell not_zero not_one past. refl);
    past_arrays = λ array past. refl;
    past_claims = λ who past. refl;
    claimed = λ who cell at. absurd (nothing_in cell at);
  };
}

-- with the free bit of cell 1 set, they don't
free_bit_set : ReadsAs small no_shapes (write worked Free 0 (2 ^ 64 - 2)) two_cells → ⊥
free_bit_set reads = let is_live : live ≡ free = (reads.parts.cells 1 (omega arith)).status in absurd (cc)

-- nor with its dead bit set
dead_bit_set : ReadsAs small no_shapes (write worked Dead 0 2) two_cells → ⊥
dead_bit_set reads = let is_live : live ≡ dead = (reads.parts.cells 1 (omega arith)).status in absurd (cc)

-- nor with a word in the register that is no value's
word_of_no_value : ReadsAs small no_shapes (write worked Registers 0 3) two_cells → ⊥
word_of_no_value reads = let word : 2 ≡ 3 = (reads.roots.registers 0 0 (omega arith) (omega arith)).is_word in omega (arith, word)

-- nor where cell 1 is in the middle of a transition
transition_under_way : ReadsAs small no_shapes (write worked Structure 1 1) two_cells → ⊥
transition_under_way reads =
    let structure = ((reads.parts.cells 1 (omega arith)).taken refl).keys in
    let word = structure.is_word in
    omega (arith, word)

-- nor with a claim that no mutator has
claim_of_none : ReadsAs small no_shapes (write worked Claim 0 1) two_cells → ⊥
claim_of_none reads = nothing_in 0 ((reads.parts.claims.named 0 0 (omega arith)).0 refl)

-- nor where the cycle is over
cycle_over : ReadsAs small no_shapes (write worked Phase 0 4) two_cells → ⊥
cycle_over reads = let phase : idle ≡ marking 2 = reads.roots.phase in absurd (cc)

-- nor with a word in a free cell
free_cell_in_a_group : ReadsAs small no_shapes (write worked Group 5 1) two_cells → ⊥
free_cell_in_a_group reads = let group : 1 ≡ 0 = ((reads.parts.cells 5 (omega arith)).zeroed refl).group in omega (arith, group)

-- nor do words with a group that has no u32, as any state
group_of_no_number : (state : State) → ReadsAs small no_shapes (write worked Group 0 (2 ^ 32)) state → ⊥
group_of_no_number state reads =
    let cell = reads.parts.cells 0 (omega arith) in
    let taken = cell.taken (ap is_free cell.status) in
    let group = taken.group in
    let number = taken.group_number in
    omega (arith, group, number)

-- nor do words where a block's cells are free and dead at once, as any state: a free bit that is taken would give a
-- dead cell
free_and_dead : (layout : Layout) (shapes : ShapeLists) (state : State) → 0 < block_count layout →
    ReadsAs layout shapes (write empty_heap Dead 0 (2 ^ 64 - 1)) state → ⊥
free_and_dead layout shapes state some reads =
    let apart : bit_at (2 ^ 64 - 1) 0 ≡ 0 = reads.parts.apart 0 0 some (omega arith) (bit_at_ones 64 0 (omega arith)) in
    let one = bit_at_ones 64 0 (omega arith) in
    omega (arith, apart, one)

-- such a bit that is taken does give one
taken_is_dead : cell_status (write (write empty_heap Dead 0 (2 ^ 64 - 1)) Free 0 (2 ^ 64 - 2)) 0 ≡ dead
taken_is_dead = refl

-- each reference of these cells is to one of them
references : RefsAreLive two_cells
references = record {
  in_registers = λ who register cell active. each_register (λ who register value. value ≡ Cell cell → IsLive two_cells cell)
      (λ is. subst (IsLive two_cells) (of_cell 0 cell is) refl) (λ who register apart is. absurd (cc)) who register;
  claimed = λ who cell at. absurd (nothing_in cell at);
  in_strong = λ handle cell is. absurd (cc);
  in_weak = λ handle cell is. absurd (cc);
  in_slots = λ source slot cell. each_cell (λ n held. held.status ≡ live → held.slots slot ≡ Cell cell → IsLive two_cells cell)
      (λ alive. put_at_elim (λ slot value. value ≡ Cell cell → IsLive two_cells cell) (λ slot. Empty) 0 (Cell 1)
      (λ is. subst (IsLive two_cells) (of_cell 1 cell is) refl) (λ slot other is. absurd (cc)) slot)
      (λ alive is. absurd (cc)) (λ n not_zero not_one alive. absurd (cc)) source;
  in_properties = λ source place cell. each_cell (λ n held. held.status ≡ live → place < length held.keys → held.properties place ≡ Cell cell → IsLive two_cells cell)
      (λ alive below. absurd (omega (arith, below))) (λ alive below. absurd (omega (arith, below))) (λ n not_zero not_one alive. absurd (cc)) source;
  keys_of_pairs = λ table key value. each_cell (λ n held. held.status ≡ live → held.pairs key ≡ Some value → IsLive two_cells key)
      (λ alive is. absurd (cc)) (λ alive is. absurd (cc)) (λ n not_zero not_one alive. absurd (cc)) table;
  in_pairs = λ table key cell. each_cell (λ n held. held.status ≡ live → held.pairs key ≡ Some (Cell cell) → IsLive two_cells cell)
      (λ alive is. absurd (cc)) (λ alive is. absurd (cc)) (λ n not_zero not_one alive. absurd (cc)) table;
  arrays_are_live = λ cell array. each_cell (λ n held. held.status ≡ live → held.array ≡ Some array → two_cells.arrays array ≡ live)
      (λ alive is. absurd (cc)) (λ alive is. absurd (cc)) (λ n not_zero not_one alive. absurd (cc)) cell;
  arrays_are_own = λ one other array. each_cell (λ n held. held.status ≡ live → IsLive two_cells other → held.array ≡ Some array → (two_cells.cells other).array ≡ Some array → n ≡ other)
      (λ alive also is. absurd (cc)) (λ alive also is. absurd (cc)) (λ n not_zero not_one alive. absurd (cc)) one;
}
  where
    of_cell : (one other : ℕ) → Cell one ≡ Cell other → one ≡ other
    of_cell one other same = same_cell_from_val_word one other (ap val_word same)

-- no cell is marked yet, and the words meet marking
pub marking_of_two : Marking small no_shapes worked two_cells []
marking_of_two = record {
  reads = reads;
  references = references;
  few_cycles = omega arith;
  colours = λ cell within. omega arith;
  counts = λ marks. omega arith;
  soon = omega arith;
  held = record {
    each_once = λ cell within. (let none = bit_at-zero (cell % 64) in omega (arith, none));
    of_layout = λ cell at. absurd (nothing_in cell at);
  };
  black = λ source cell black. absurd (cc);
  live = λ cell within marked. absurd (cc);
}

-- with the first cell grey and in the list they do too
pub marking_of_one_grey : Marking small no_shapes (write worked Colour 0 10) two_cells (0 ∷ [])
marking_of_one_grey = Marking-greyed small no_shapes worked two_cells [] 0 refl (omega arith) refl refl marking_of_two

-- but not where nobody holds the grey cell
grey_cell_held_by_none : Marking small no_shapes (write worked Colour 0 10) two_cells [] → ⊥
grey_cell_held_by_none meets = let once = meets.held.each_once 0 (omega arith) in absurd (cc)

-- nor where a black cell holds a white one
black_cell_to_white : Marking small no_shapes (write worked Colour 0 8) two_cells [] → ⊥
black_cell_to_white meets = let marked = meets.black 0 1 refl (in_slot 0 refl refl) in absurd (cc)

-- whether a cycle marks or not
black_cell_to_white_at_rest : (state : State) → IsLink state 0 1 →
    Marking small no_shapes (write (write worked Phase 0 4) Colour 0 8) state [] → ⊥
black_cell_to_white_at_rest state link meets = let marked = meets.black 0 1 refl link in absurd (cc)

-- nor where the running cycle is one whose colours have no words of 64 bits
cycle_without_colours : (state : State) → Marking small no_shapes (write worked Phase 0 (2 ^ 63 + 1)) state [] → ⊥
cycle_without_colours state meets = let few = meets.few_cycles in omega (arith, few)

-- nor where the colours of the running cycle don't count
base_after_cycle : (state : State) → Marking small no_shapes (write worked Base 0 3) state [] → ⊥
base_after_cycle state meets = let counts = meets.counts refl in omega (arith, counts)
