-- Heaps with one cell, worked out by hand: two that have the wave, and near ones that haven't.
use Rattle.std.proofs.Common.{ℕ, ◌≡◌, ◌≢◌, ◌-◌, ◌/◌, ◌%◌, ◌^◌, ◌<◌, ◌≤◌, ◌==◌, refl, sym, ◌∙◌, ap, subst, arith, false, true, true≢false, [], ◌∷◌, List, inl, inr, length, lit<, lit≤, take, None, Some}
use Rattle.std.proofs.lemmas.Bool.{cases_eq, ne_eqb}
use Rattle.std.proofs.lemmas.Nat.Bits.{bit_at-zero, bit_at_mask_inside}
use Rattle.std.specs.Int.{bit_at}
use Rattle.std.specs.Prelude.{◌⊎◌, if◌then◌else◌}
use Rattle.tide_words.specs.tide_layout.Region.{index_of_register}
use Rattle.tide_words.specs.tide_layout.declared.region.Region.TheVariants.{Call as CallRegion, Dead, Free, Period, Phase, Registers}
use Rattle.tide_model.specs.declared.entry.Entry.TheVariants.{Begin, Call, End, Pause}
use Rattle.tide_model.specs.declared.entry.Event.{Event}
use Rattle.tide_model.specs.declared.op.Op.TheVariants.{Alloc, Drop}
use Rattle.tide_model.specs.declared.op.Reply.TheVariants.{Born, Done}
use Rattle.tide_model.specs.declared.val.Val.{Val}
use Rattle.tide_model.specs.declared.val.Val.TheVariants.{Cell, Empty}
use Rattle.tide_model.specs.Cycle.{StandsEnd, cycle_span}
use Rattle.tide_model.specs.Graph.{IsLink, IsRetained, IsRoot, claimed, in_handle, in_property, in_register, in_slot, is_further, is_root, retained_in_closed}
use Rattle.tide_model.specs.History.{is_begin, plain, state_at}
use Rattle.tide_model.specs.Applied.{after_call}
use Rattle.tide_model.specs.Lawful.{IsLawful}
use Rattle.tide_model.specs.Numbers.{put_at}
use Rattle.tide_model.specs.Old.{IsSpared, is_full, last_full}
use Rattle.tide_model.specs.References.{RefsAreLive}
use Rattle.tide_model.specs.Refused.{no_shapes}
use Rattle.tide_model.specs.Since.{visits_since}
use Rattle.tide_model.specs.State.{CellState, State, blank_cell, dead, empty_state, free, live, marking}
use Rattle.tide_model.proofs.Histories.{IsLawful-nil, IsLawful-push}
use Rattle.tide_model.proofs.NumberLaws.{put_at_elim}
use Rattle.tide_model.proofs.PeriodTests.{IsSwept-tested}
use Rattle.tide_model.proofs.ReferenceLaws.{RefsAreLive-call}
use Rattle.tide_model.proofs.ReferenceSteps.{RefsAreLive-empty}
use Rattle.tide_model.proofs.ReferencesInCycles.{RefsAreLive-phase}
use Rattle.tide_words.specs.declared.forms.colours.Colour.TheVariants.{Black, Grey}
use Rattle.tide_words.specs.forms.ValueWord.{val_word}
use Rattle.tide_words.specs.heap.EmptyHeap.{empty_heap}
use Rattle.tide_words.specs.heap.Heap.{Heap, write}
use Rattle.tide_words.specs.heap.Reading.{CellReads, IsValueOf, ReadsAs, cell_status, status_by}
use Rattle.tide_words.specs.marking.Colours.{IsMarked, coloured, is_marking}
use Rattle.tide_words.specs.marking.Marked.{base_cycle, is_marked}
use Rattle.tide_words.specs.marking.Marking.{Marking}
use Rattle.tide_words.proofs.form_laws.FormLaws.{same_cell_from_val_word}
use Rattle.tide_words.proofs.heap_laws.EmptyReading.{nothing_in}
use Rattle.tide_words.proofs.marking_laws.ColourLaws.{is_marked-other}
use Rattle.tide_words.proofs.marking_laws.MarkingLaws.{Marking-blackened, Marking-greyed}
use Rattle.tide_words.proofs.marking_laws.ReadingRows.{small}
use Rattle.tide_cycle.specs.Converged.{HasConverged}
use Rattle.tide_cycle.specs.Reports.{kept_count}
use Rattle.tide_core.specs.wave.FrozenWave.{FrozenWave, OldIsMarked, call_count}
use Rattle.tide_core.proofs.wave_laws.EndLaws.{StandsEnd-converged}

-- cell 0 is live, the register has it, and the first cycle marks
abbrev one_cell : State
one_cell = record empty_state {
  registers = put_at (λ who register. Empty) 0 (put_at (λ register. Empty) 0 (Cell 0));
  cells = put_at (λ cell. blank_cell free) 0 (blank_cell live);
  phase = marking 1;
}

-- its words with no cell marked
abbrev unmarked : Heap
unmarked = write (write (write (write empty_heap Phase 0 3) CallRegion 0 1) Registers 0 2) Free 0 (2 ^ 64 - 2 ^ 1)

-- and once a visit made the cell black
abbrev visited : Heap
visited = coloured (coloured unmarked 0 Grey) 0 Black

-- the cell is born, a cycle begins, and its first pause visits the cell
abbrev born_before : List Event
born_before = plain (Call 0 (Alloc 0 0) (Born 0)) ∷ plain (Begin 1 true) ∷ plain (Pause 1) ∷ []

-- a cycle begins, and the cell is born in it
abbrev born_after : List Event
born_after = plain (Begin 1 true) ∷ plain (Call 0 (Alloc 0 0) (Born 0)) ∷ []

-- each register but the first is empty
each_register : (P : ℕ → ℕ → Val → Type 0) → P 0 0 (Cell 0) →
    ((who register : ℕ) → (who ≢ 0) ⊎ (register ≢ 0) → P who register Empty) →
    (who register : ℕ) → P who register (one_cell.registers who register)
each_register P here others who register =
    put_at_elim (λ who own. P who register (own register)) (λ who register. Empty) 0
    (put_at (λ register. Empty) 0 (Cell 0))
    (put_at_elim (λ register value. P 0 register value) (λ register. Empty) 0 (Cell 0) here
    (λ n other. others 0 n (inr other)) register)
    (λ n other. others n register (inl other)) who

-- each cell but the first is free
each_cell : (P : ℕ → CellState → Type 0) → P 0 (blank_cell live) → ((cell : ℕ) → cell ≢ 0 → P cell (blank_cell free)) →
    (cell : ℕ) → P cell (one_cell.cells cell)
each_cell P here others cell = put_at_elim P (λ cell. blank_cell free) 0 (blank_cell live) here others cell

free_by_bit : (cell : ℕ) → cell ≢ 0 → cell < 64 → free ≡ cell_status unmarked cell
free_by_bit cell not_zero within =
    let block : cell / 64 ≡ 0 = omega (arith, within) in
    sym (ap (λ (block : ℕ). status_by (unmarked Free block) (unmarked Dead block) (cell % 64) live) block
    ∙ ap (λ (bit : ℕ). if bit == 1 then free else (if bit_at 0 (cell % 64) == 1 then dead else live))
    (bit_at_mask_inside 1 64 (cell % 64) (omega (arith, not_zero, within)) (omega arith)))

live_reads : CellReads small no_shapes unmarked 0 (blank_cell live)
live_reads = record {
  status = refl;
  zeroed = λ is_free. absurd (cc);
  taken = λ not_free. record {
    keys = record { shape = 0; is_shape = refl; few_shapes = omega arith; few_keys = omega arith; is_word = refl };
    array = refl;
    group = refl;
    group_number = omega arith;
    slots = λ slot below. record { number = tt; is_word = refl };
    past_slots = λ slot past. refl;
    table = λ is_one. absurd (cc);
    no_table = λ isnt key. refl;
  };
  properties = λ alive place below. absurd (omega (arith, below));
}

free_reads : (cell : ℕ) → cell ≢ 0 → cell < 64 → CellReads small no_shapes unmarked cell (blank_cell free)
free_reads cell not_zero within = record {
  status = free_by_bit cell not_zero within;
  zeroed = λ is_free. record { structure = refl; array = refl; claim = refl; group = refl; slots = λ slot has. refl };
  taken = λ not_free. absurd (cc);
  properties = λ alive. absurd (cc);
}

reads : ReadsAs small no_shapes unmarked one_cell
reads = record {
  roots = record {
    phase = refl;
    active = λ who within. refl;
    registers = each_register
        (λ who register value. who < 1 → register < 1 →
        IsValueOf value (unmarked Registers (index_of_register small who register)))
        (λ in_mutators in_registers. record { number = omega arith; is_word = refl })
        (λ who register apart in_mutators in_registers. absurd (elim apart [
          | inl other ↦ other (omega (arith, in_mutators))
          | inr other ↦ other (omega (arith, in_registers))
        ]));
    strong = λ handle within. absurd (omega (arith, within));
    weak = λ handle within. absurd (omega (arith, within));
    past_active = λ who past. refl;
    past_registers = each_register (λ who register value. (1 ≤ who) ⊎ (1 ≤ register) → value ≡ Empty)
        (λ past. absurd (elim past [ inl more ↦ omega (arith, more) | inr more ↦ omega (arith, more) ]))
        (λ who register apart past. refl);
    past_strong = λ handle past. refl;
    past_weak = λ handle past. refl;
  };
  parts = record {
    cells = each_cell (λ cell held. cell < 64 → CellReads small no_shapes unmarked cell held)
        (λ within. live_reads) free_reads;
    arrays = record {
      named = λ array within. absurd (omega (arith, within));
      unnamed = λ array within. absurd (omega (arith, within));
    };
    claims = record {
      named = λ cell who within. ((λ is. absurd (omega (arith, is))), (λ at. absurd (nothing_in cell at)));
      unnamed = λ cell within alone. refl;
    };
    apart = λ block bit within few is_free. bit_at-zero bit;
    past_cells = each_cell (λ cell held. 64 ≤ cell → held ≡ blank_cell free) (λ past. absurd (omega (arith, past)))
        (λ cell not_zero past. refl);
    past_arrays = λ array past. refl;
    past_claims = λ who past. refl;
    claimed = λ who cell at. absurd (nothing_in cell at);
  };
}

-- the birth leaves no reference to a cell that isn't live
references : RefsAreLive one_cell
references = RefsAreLive-phase (after_call empty_state 0 (Alloc 0 0) (Born 0) None) (marking 1)
    (RefsAreLive-call small no_shapes empty_state 0 (Alloc 0 0) (Born 0) None RefsAreLive-empty refl
    (refl, record { of_class = record { from = omega arith; below = omega arith }; is_free = refl }))

-- the words meet marking before the visit, and after it
marking_unmarked : Marking small no_shapes unmarked one_cell []
marking_unmarked = record {
  reads = reads;
  references = references;
  few_cycles = omega arith;
  colours = λ cell within. omega arith;
  counts = λ marks. omega arith;
  soon = omega arith;
  held = record {
    each_once = λ cell within. (let none = bit_at-zero (cell % 64) in omega (arith, none));
    of_layout = λ cell at. absurd (nothing_in cell at);
  };
  black = λ source cell black. absurd (cc);
  live = λ cell within marked. absurd (cc);
}

marking_visited : Marking small no_shapes visited one_cell []
marking_visited =
    Marking-blackened small no_shapes (coloured unmarked 0 Grey) one_cell [] 0 refl (λ other link. elim link [
      | in_slot slot alive is ↦ absurd (cc)
      | in_property place alive below is ↦ absurd (omega (arith, below))
    ]) (Marking-greyed small no_shapes unmarked one_cell [] 0 refl (omega arith) refl refl marking_unmarked)

-- cell 0 alone is marked
marked_is_first : (cell : ℕ) → IsMarked visited cell → cell ≡ 0
marked_is_first cell marked = elim (cases_eq cell 0) [
  | inl first ↦ first
  | inr other ↦
      let white = is_marked-other (coloured unmarked 0 Grey) 0 cell Black other
      ∙ is_marked-other unmarked 0 cell Grey other in
      absurd (cc)
]

-- in a full cycle no old cell has to be marked
old_in_full : (history : List Event) → is_full history ≡ true → base_cycle visited ≡ last_full history →
    OldIsMarked small visited history
old_in_full history full base = record {
  old = λ eden. absurd (true≢false (sym full ∙ eden refl));
  rests = λ rests. absurd (true≢false rests);
  base = base;
}

-- the visit is counted: the heap has the wave
visited_cell_has_wave : FrozenWave small no_shapes visited born_before
visited_cell_has_wave = record {
  marking = marking_visited;
  cycle = refl;
  period = refl;
  calls = λ who within. (let first : who ≡ 0 = omega (arith, within) in subst (λ (n : ℕ). visited CallRegion n ≡ call_count n born_before % 2 ^ 64) (sym first) refl);
  old = old_in_full born_before refl refl;
  retained = λ marks cell within marked. subst (IsRetained (cycle_span small born_before) (IsSpared small born_before))
      (sym (marked_is_first cell marked))
      (is_root 0 (2, omega arith, omega arith, in_register 0 0 refl refl));
  born = λ marks cell within born. absurd (cc);
  counted = λ marks. omega arith;
}

-- it has the wave too where the cell was born black in the cycle and not visited
born_cell_has_wave : FrozenWave small no_shapes visited born_after
born_cell_has_wave = record {
  marking = marking_visited;
  cycle = refl;
  period = refl;
  calls = λ who within. (let first : who ≡ 0 = omega (arith, within) in subst (λ (n : ℕ). visited CallRegion n ≡ call_count n born_after % 2 ^ 64) (sym first) refl);
  old = old_in_full born_after refl refl;
  retained = λ marks cell within marked. subst (IsRetained (cycle_span small born_after) (IsSpared small born_after))
      (sym (marked_is_first cell marked))
      (is_root 0 (2, omega arith, omega arith, in_register 0 0 refl refl));
  born = λ marks cell within born. elim (cases_eq 0 cell) [
    | inl first ↦ subst (IsMarked visited) first refl
    | inr other ↦ absurd (let isnt = ne_eqb 0 cell other in cc)
  ];
  counted = λ marks. omega arith;
}

-- all that is retained is marked
visited_is_converged : HasConverged small visited one_cell
visited_is_converged = record {
  no_greys = λ block within. record { shared = refl; mutator = refl; race = refl };
  closed = record {
    roots = λ cell root. elim root [
      | in_register who register active is ↦ each_register (λ w r value. value ≡ Cell cell → IsMarked visited cell)
          (λ has. subst (IsMarked visited) (same_cell_from_val_word 0 cell (ap val_word has)) refl)
          (λ w r apart has. absurd (cc)) who register is
      | claimed who at ↦ absurd (nothing_in cell at)
      | in_handle handle is ↦ absurd (cc)
    ];
    further_cells = λ cell none. absurd none;
    links = λ source cell marked link. absurd (no_link source cell link);
    pairs = λ table key cell marked_table marked_key triple. absurd
        (let held = triple.has_pair in no_pair table key cell held);
    group_mates = λ one other marked group_mate. absurd (group_mate.in_a_group (no_group one));
  };
}
  where
    no_slot : (source slot cell : ℕ) → (one_cell.cells source).slots slot ≡ Cell cell → ⊥
    no_slot source slot cell = each_cell (λ n held. held.slots slot ≡ Cell cell → ⊥) (λ is. absurd (cc))
        (λ n not_zero is. absurd (cc)) source

    no_key : (source place : ℕ) → place < length (one_cell.cells source).keys → ⊥
    no_key source place = each_cell (λ n held. place < length held.keys → ⊥) (λ below. omega (arith, below))
        (λ n not_zero below. omega (arith, below)) source

    no_link : (source cell : ℕ) → IsLink one_cell source cell → ⊥
    no_link source cell (in_slot slot alive is) = no_slot source slot cell is
    no_link source cell (in_property place alive below is) = no_key source place below

    no_pair : (table key cell : ℕ) → (one_cell.cells table).pairs key ≡ Some (Cell cell) → ⊥
    no_pair table key cell = each_cell (λ n held. held.pairs key ≡ Some (Cell cell) → ⊥) (λ is. absurd (cc))
        (λ n not_zero is. absurd (cc)) table

    no_group : (cell : ℕ) → (one_cell.cells cell).group ≡ 0
    no_group = each_cell (λ n held. held.group ≡ 0) refl (λ n not_zero. refl)

-- the history is lawful
born_before_is_lawful : IsLawful small no_shapes born_before
born_before_is_lawful =
    let born = IsLawful-push small no_shapes [] (plain (Call 0 (Alloc 0 0) (Born 0))) (IsLawful-nil small no_shapes) (record {
      is_mutator = lit< tt;
      is_active = refl;
      fits = (lit< tt, lit< tt);
      answers = (refl, record { of_class = record { from = lit≤ tt; below = lit< tt }; is_free = refl });
      room = λ class is. absurd (cc);
    }) in
    let begun = IsLawful-push small no_shapes (take 1 born_before) (plain (Begin 1 true)) born (
      refl,
      record {
        is_idle = refl;
        is_swept = IsSwept-tested small (take 1 born_before) refl;
        is_next = refl;
      },
    ) in
    IsLawful-push small no_shapes (take 2 born_before) (plain (Pause 1)) begun refl

-- so the cycle may end, and it keeps the one cell that was visited
visited_cell_is_kept : StandsEnd small born_before 1 [] × (kept_count small visited ≡ 1)
    × (visits_since is_begin born_before ≡ 1)
visited_cell_is_kept = (
  StandsEnd-converged small no_shapes visited born_before visited_cell_has_wave born_before_is_lawful refl visited_is_converged,
  refl,
  refl,
)

-- a visit that no entry tells breaks the wave
visit_untold : FrozenWave small no_shapes visited
    (plain (Call 0 (Alloc 0 0) (Born 0)) ∷ plain (Begin 1 true) ∷ plain (Pause 0) ∷ []) → ⊥
visit_untold wave = (let few = wave.counted refl in omega (arith, few))

-- so does a cell that is born white in the cycle
born_white : FrozenWave small no_shapes unmarked born_after → ⊥
born_white wave = (let marked = wave.born refl 0 (omega arith) refl in absurd (cc))

-- so does a cycle that the words count and the history hasn't, also at rest
cycle_untold : FrozenWave small no_shapes (write empty_heap Phase 0 2) [] → ⊥
cycle_untold wave = (let one = wave.cycle in omega (arith, one))

-- and so does a part
part_untold : FrozenWave small no_shapes (write empty_heap Period 0 1) [] → ⊥
part_untold wave = (let one = wave.period in omega (arith, one))

-- so does a base that is later than the last full cycle, where none was full: marks of the first cycle would be lost
later_base : (heap : Heap) → base_cycle heap ≡ 2 → FrozenWave small no_shapes heap (plain (Begin 1 false) ∷ []) → ⊥
later_base heap is wave = (let base = wave.old.base in absurd (omega (arith, is, base)))

-- and one that a full cycle left as it was: marks of the cycle before it would count
earlier_base : (heap : Heap) → base_cycle heap ≡ 1 → FrozenWave small no_shapes heap
    (plain (Begin 1 false) ∷ plain (Pause 0) ∷ plain (End 1 []) ∷ plain (Begin 2 true) ∷ []) → ⊥
earlier_base heap is wave = (let base = wave.old.base in absurd (omega (arith, is, base)))

-- the cell is dropped before the cycle begins
abbrev dropped : List Event
dropped = plain (Call 0 (Alloc 0 0) (Born 0)) ∷ plain (Call 0 (Drop 0) Done) ∷ plain (Begin 1 true) ∷ plain (Pause 1) ∷ []

-- then no register has it at any moment of the cycle
none_held : (who register : ℕ) → (state_at small dropped 3).registers who register ≡ Empty
none_held who register =
    put_at_elim (λ w own. own register ≡ Empty) (one_cell.registers) 0 (put_at (one_cell.registers 0) 0 Empty)
    (put_at_elim (λ r value. value ≡ Empty) (one_cell.registers 0) 0 Empty refl
    (λ r apart. put_at_elim (λ n value. n ≢ 0 → value ≡ Empty) (λ n. Empty) 0 (Cell 0)
    (λ not_zero. absurd (not_zero refl)) (λ n other not_zero. refl) r apart) register)
    (λ w apart. put_at_elim (λ n own. n ≢ 0 → own register ≡ Empty) (λ n r. Empty) 0 (put_at (λ r. Empty) 0 (Cell 0))
    (λ not_zero. absurd (not_zero refl)) (λ n other not_zero. refl) w apart) who

no_root : (cell : ℕ) → IsRoot (state_at small dropped 3) cell → ⊥
no_root cell (in_register who register active is) = (let none = none_held who register in absurd (cc))
no_root cell (claimed who at) = nothing_in cell at
no_root cell (in_handle handle is) = absurd (cc)

-- and so nothing of the cycle is retained, a full one, which spares none
none_retained : (cell : ℕ) → IsRetained (cycle_span small dropped) (IsSpared small dropped) cell → ⊥
none_retained = retained_in_closed (cycle_span small dropped) (IsSpared small dropped) (λ cell. ⊥) (record {
  roots = λ cell root. elim (cases_eq root.0 3) [
    | inl begun ↦ no_root cell (subst (λ (moment : ℕ). IsRoot (state_at small dropped moment) cell) begun root.3)
    | inr later ↦
        let early = root.1 in
        let late = root.2 in
        let last : root.0 ≡ 4 = omega (arith, early, late, later) in
        no_root cell (subst (λ (moment : ℕ). IsRoot (state_at small dropped moment) cell) last root.3)
  ];
  further_cells = λ cell spared. true≢false (sym spared);
  links = λ source cell from link. from;
  pairs = λ table key cell from_table from_key triple. from_table;
  group_mates = λ one other from group_mate. from;
})

-- a mark on the cell breaks the wave, whatever else the words say
garbage_marked : (heap : Heap) → is_marking heap ≡ true → IsMarked heap 0 → FrozenWave small no_shapes heap dropped → ⊥
garbage_marked heap marks marked wave = none_retained 0 (wave.retained marks 0 (omega arith) marked)

-- the cell is kept by the first cycle, an Eden one, and dropped: the next one is an Eden cycle too
abbrev old_dropped : List Event
old_dropped =
    plain (Call 0 (Alloc 0 0) (Born 0)) ∷ plain (Begin 1 false) ∷ plain (Pause 1) ∷ plain (End 1 [])
    ∷ plain (Call 0 (Drop 0) Done) ∷ plain (Begin 2 false) ∷ []

-- it is old, and so the cycle retains it, though nothing holds it
old_garbage_is_retained : IsRetained (cycle_span small old_dropped) (IsSpared small old_dropped) 0
old_garbage_is_retained = is_further 0 refl

-- an Eden cycle that unmarked it breaks the wave, whatever else the words say: its end would free the cell
old_unmarked : (heap : Heap) → is_marked heap 0 ≡ false → FrozenWave small no_shapes heap old_dropped → ⊥
old_unmarked heap white wave = true≢false (sym (wave.old.old (λ marks. refl) 0 (omega arith) refl) ∙ white)

-- a new cell that is marked between two cycles does too: the next Eden cycle would keep it for no cause
young_marked : (heap : Heap) → is_marking heap ≡ false → IsMarked heap 1 → FrozenWave small no_shapes heap
    (plain (Call 0 (Alloc 0 0) (Born 0)) ∷ plain (Begin 1 false) ∷ plain (Pause 1) ∷ plain (End 1 [])
    ∷ plain (Call 0 (Alloc 0 0) (Born 1)) ∷ []) → ⊥
young_marked heap rests marked wave = (let is = wave.old.rests rests 1 (omega arith) marked in true≢false (sym is))
