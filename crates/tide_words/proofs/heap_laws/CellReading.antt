-- What the words say of one cell, and that it depends on that cell's words alone.
use Rattle.std.proofs.Common.{ℕ, ◌≡◌, ◌<◌, sym, ◌∙◌, subst, Option, Some, length}
use Rattle.std.specs.Prelude.{◌⊎◌}
use Rattle.tide_model.specs.declared.val.Val.{Val}
use Rattle.tide_model.specs.Layout.{Layout, cell_count}
use Rattle.tide_model.specs.Refused.{ShapeLists}
use Rattle.tide_model.specs.State.{CellState, live}
use Rattle.tide_layout.specs.declared.region.Region.TheVariants.{Array, Claim, Group, Structure}
use Rattle.tide_words.specs.heap.Heap.{Heap}
use Rattle.tide_words.specs.forms.PairWord.{IsPairWord}
use Rattle.tide_words.specs.heap.Reading.{CellReads, IsPairOf, IsTableOf, TakenReads, cell_status, element_word, slot_word}
use Rattle.tide_layout.specs.Slots.{HasElement, HasSlot}
use Rattle.tide_words.proofs.heap_laws.ReadingLaws.{HasSlot-class, IsPairOf-same, IsStructureOf-same, IsValueOf-same}

-- the words of a cell that holds this are the same in two heaps
pub record SameCellWords (layout : Layout) (old new : Heap) (cell : ℕ) (held : CellState) : Type 0 where
  pub status : cell_status new cell ≡ cell_status old cell
  pub structure : new Structure cell ≡ old Structure cell
  pub array : new Array cell ≡ old Array cell
  pub claim : new Claim cell ≡ old Claim cell
  pub group : new Group cell ≡ old Group cell
  pub slots : (slot : ℕ) → HasSlot layout cell slot → slot_word layout new cell slot ≡ slot_word layout old cell slot
  pub elements : held.status ≡ live → (array place : ℕ) → held.array ≡ Some array → place < length held.keys → HasElement layout array place →
      element_word layout new array place ≡ element_word layout old array place

-- a table whose words are the same has the same pairs
pub IsTableOf-kept : (layout : Layout) (old new : Heap) (table : ℕ) (pairs : ℕ → Option Val) →
    ((place : ℕ) → HasSlot layout table place → slot_word layout new table place ≡ slot_word layout old table place) → IsTableOf layout old table pairs → IsTableOf layout new table pairs
IsTableOf-kept layout old new table pairs now of = record {
  forms = λ place has. subst (λ (w : ℕ). (w ≡ 0) ⊎ IsPairWord w) (sym (now place has)) (of.forms place has);
  said = λ place key value has is. of.said place key value has (back place key value has is);
  stands = λ key value held. (let (place, has, is) = of.stands key value held in
      (place, has, IsPairOf-same key value (slot_word layout old table place) (slot_word layout new table place) (now place has) is));
  once = λ one other key value another has_one has_other is_one is_other.
      of.once one other key value another has_one has_other (back one key value has_one is_one) (back other key another has_other is_other);
}
  where
    back : (place key : ℕ) (value : Val) → HasSlot layout table place → IsPairOf key value (slot_word layout new table place) → IsPairOf key value (slot_word layout old table place)
    back place key value has is = IsPairOf-same key value (slot_word layout new table place) (slot_word layout old table place) (sym (now place has)) is

-- a cell whose words are the same reads as before
pub TakenReads-kept : (layout : Layout) (shapes : ShapeLists) (old new : Heap) (cell : ℕ) (held : CellState) → cell < cell_count layout → SameCellWords layout old new cell held →
    TakenReads layout shapes old cell held → TakenReads layout shapes new cell held
TakenReads-kept layout shapes old new cell held within same reads = record {
  keys = IsStructureOf-same shapes held.keys (old Structure cell) (new Structure cell) same.structure reads.keys;
  array = same.array ∙ reads.array;
  group = same.group ∙ reads.group;
  group_number = reads.group_number;
  slots = λ slot below. IsValueOf-same (held.slots slot) (slot_word layout old cell slot) (slot_word layout new cell slot)
      (same.slots slot (HasSlot-class layout cell slot within below)) (reads.slots slot below);
  past_slots = reads.past_slots;
  table = λ is_one. IsTableOf-kept layout old new cell held.pairs same.slots (reads.table is_one);
  no_table = reads.no_table;
}

pub CellReads-kept : (layout : Layout) (shapes : ShapeLists) (old new : Heap) (cell : ℕ) (held : CellState) → cell < cell_count layout → SameCellWords layout old new cell held →
    CellReads layout shapes old cell held → CellReads layout shapes new cell held
CellReads-kept layout shapes old new cell held within same reads = record {
  status = reads.status ∙ sym same.status;
  zeroed = λ is_free. let was = reads.zeroed is_free in record {
    structure = same.structure ∙ was.structure;
    array = same.array ∙ was.array;
    claim = same.claim ∙ was.claim;
    group = same.group ∙ was.group;
    slots = λ slot has. same.slots slot has ∙ was.slots slot has;
  };
  taken = λ taken. TakenReads-kept layout shapes old new cell held within same (reads.taken taken);
  properties = λ alive place below. (let (array, is, has, value) = reads.properties alive place below in
      (array, is, has, IsValueOf-same (held.properties place) (element_word layout old array place) (element_word layout new array place) (same.elements alive array place is below has) value));
}
