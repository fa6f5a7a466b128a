-- A slot is stored; a cell joins a group.
use Rattle.std.proofs.Common.{ℕ, ◌≡◌, ◌^◌, ◌<◌, ◌≤◌, refl, sym, ◌∙◌, ap, arith}
use Rattle.std.proofs.lemmas.Bool.{eqb-true}
use Rattle.tide_model.specs.declared.val.Val.{Val}
use Rattle.tide_model.specs.declared.val.Val.TheVariants.{Cell, Empty}
use Rattle.tide_model.specs.Applied.{put_cell, put_slot}
use Rattle.tide_model.specs.Layout.{Layout, cell_count, class_of, slots_of}
use Rattle.tide_model.specs.Numbers.{put_at}
use Rattle.tide_model.specs.References.{IsLive}
use Rattle.tide_model.specs.Refused.{ShapeLists}
use Rattle.tide_model.specs.State.{CellState, State, is_free}
use Rattle.tide_model.proofs.ReferenceLaws.{put_at_elim}
use Rattle.tide_words.specs.tide_layout.declared.region.Region.TheVariants.{Group, Slots}
use Rattle.tide_words.specs.heap.Heap.{Heap, write}
use Rattle.tide_words.specs.heap.Reading.{CellReads, IsValueOf, ReadsAs, TakenReads, slot_word}
use Rattle.tide_words.specs.tide_layout.Slots.{HasSlot, index_of_slot}
use Rattle.tide_words.specs.forms.ValueWord.{HasU32, val_word}
use Rattle.tide_words.proofs.heap_laws.HeapLaws.{write-same}
use Rattle.tide_words.proofs.heap_laws.ReadingLaws.{HasSlot-class}
use Rattle.tide_words.proofs.tide_layout.SlotPlaces.{index_of_slot-alone}
use Rattle.tide_words.proofs.heap_laws.CellLaw.{CellReads-live, ReadsAs-cell}
use Rattle.tide_words.proofs.heap_laws.CellReading.{IsTableOf-kept}
use Rattle.tide_words.proofs.heap_laws.Frames.{else-group, else-slot}
use Rattle.tide_words.proofs.heap_laws.Parts.{SameRoots-write}
use Rattle.tide_call.proofs.reading_laws.RootReading.{IsValueOf-else, IsValueOf-written}

module _ (layout : Layout) (shapes : ShapeLists) (heap : Heap) (state : State) (cell : ℕ) (within : cell < cell_count layout) (alive : IsLive state cell)
    (reads : ReadsAs layout shapes heap state) where
  was : CellReads layout shapes heap cell (state.cells cell)
  was = reads.parts.cells cell within

  taken : TakenReads layout shapes heap cell (state.cells cell)
  taken = was.taken (ap is_free alive)

  pub Reading-group : (group : ℕ) → group < 2 ^ 32 → ReadsAs layout shapes (write heap Group cell group) (put_cell state cell (record (state.cells cell) { group = group }))
  Reading-group group few =
      ReadsAs-cell layout shapes heap (write heap Group cell group) state cell (record (state.cells cell) { group = group }) within
      (SameRoots-write layout heap Group cell group refl) (λ index below. refl) (λ index below. refl) (λ index below. refl)
      (λ x inside apart. else-group layout heap x group (state.cells x) cell apart) reads refl refl
      (CellReads-live layout shapes (write heap Group cell group) cell (record (state.cells cell) { group = group }) alive (sym was.status ∙ alive) (record {
        keys = taken.keys;
        array = taken.array;
        group = write-same heap Group cell group;
        group_number = few;
        slots = taken.slots;
        past_slots = taken.past_slots;
        table = λ is. IsTableOf-kept layout heap (write heap Group cell group) cell (state.cells cell).pairs (λ place has. refl) (taken.table is);
        no_table = taken.no_table;
      }) (was.properties alive))

  pub Reading-slot : (slot : ℕ) (value : Val) → slot < slots_of (class_of layout cell) → HasU32 value →
      ReadsAs layout shapes (write heap Slots (index_of_slot layout cell slot) (val_word value)) (put_slot state (Cell cell) slot value)
  Reading-slot slot value below fits =
      ReadsAs-cell layout shapes heap new state cell held within
      (SameRoots-write layout heap Slots (index_of_slot layout cell slot) (val_word value) refl) (λ index inside. refl) (λ index inside. refl) (λ index inside. refl)
      (λ x inside apart. else-slot layout heap x (val_word value) (state.cells x) cell slot apart has.slot_within) reads refl refl
      (CellReads-live layout shapes new cell held alive (sym was.status ∙ alive) (record {
        keys = taken.keys;
        array = taken.array;
        group = taken.group;
        group_number = taken.group_number;
        slots = put_at_elim (λ at v. at < slots_of (class_of layout cell) → IsValueOf v (slot_word layout new cell at)) (state.cells cell).slots slot value
            (λ inside. IsValueOf-written heap Slots (index_of_slot layout cell slot) value fits)
            (λ at apart inside. IsValueOf-else heap Slots (index_of_slot layout cell slot) (index_of_slot layout cell at) (val_word value) ((state.cells cell).slots at)
            (λ same. apart (index_of_slot-alone layout cell cell slot at has.slot_within (HasSlot-class layout cell at within inside).slot_within same).1) (taken.slots at inside));
        past_slots = put_at_elim (λ at v. slots_of (class_of layout cell) ≤ at → v ≡ Empty) (state.cells cell).slots slot value
            (λ past. absurd (omega (arith, past, below))) (λ at apart past. taken.past_slots at past);
        table = λ is. absurd (let few = ap slots_of (eqb-true (class_of layout cell) 4 is) in omega (arith, few, below));
        no_table = taken.no_table;
      }) (was.properties alive))
    where
      has : HasSlot layout cell slot
      has = HasSlot-class layout cell slot within below

      new : Heap
      new = write heap Slots (index_of_slot layout cell slot) (val_word value)

      held : CellState
      held = record (state.cells cell) { slots = put_at (state.cells cell).slots slot value }
