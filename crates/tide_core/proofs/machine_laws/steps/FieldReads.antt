-- What a scan reads while its readings are still the words is what a visit of its cell reads, and nothing else is.
use Rattle.std.proofs.Common.{ℕ, ◌≡◌, ◌<◌, ◌⊎◌, refl, sym, ◌∙◌, ap, arith, Some, inl, inr}
use Rattle.tide_words.specs.tide_layout.Slots.{HasElement}
use Rattle.tide_words.specs.tide_layout.declared.region.Region.TheVariants as region
use Rattle.tide_core.proofs.machine_laws.WordLaws.{count_of_word}
use Rattle.tide_core.specs.machine.Words.{count_of}
use Rattle.tide_model.specs.Layout.{Layout, class_of, slots_of}
use Rattle.tide_words.specs.forms.Reference.{array_word}
use Rattle.tide_words.specs.forms.StructureWord.{IsStructureWord}
use Rattle.tide_words.specs.heap.Fields.{IsFieldWord, of_slot, of_property}
use Rattle.tide_words.specs.heap.Heap.{Heap}
use Rattle.tide_words.specs.heap.Reading.{element_word, slot_word}

-- the place of an element that a scan may read: its first reading is the structure's word, and the array that it read
-- is the cell's
pub record IsScanned (layout : Layout) (heap : Heap) (cell array place : ℕ) : Type 0 where
  pub named : heap region.Array cell ≡ array_word (Some array)
  pub within : place < count_of (heap region.Structure cell)
  pub has : HasElement layout array place

-- such an element is one of the cell's fields, as each slot is
pub scanned_is_field : (layout : Layout) (heap : Heap) (cell array place : ℕ) →
    IsStructureWord (heap region.Structure cell) → IsScanned layout heap cell array place →
    IsFieldWord layout heap cell (element_word layout heap array place)
scanned_is_field layout heap cell array place (structure, few_shapes, few, is) scanned =
    let count = ap count_of (sym is) ∙ count_of_word structure few in
    let within = scanned.within in
    of_property structure array place (record {
      is_structure = is;
      few_shapes = few_shapes;
      few = few;
      is_array = scanned.named;
    }) (omega (arith, within, count)) scanned.has refl

-- each of the cell's fields is a slot or such an element
pub field_is_scanned : (layout : Layout) (heap : Heap) (cell word : ℕ) → IsFieldWord layout heap cell word →
    ((slot : ℕ) × (slot < slots_of (class_of layout cell)) × (slot_word layout heap cell slot ≡ word))
    ⊎ ((array : ℕ) × (place : ℕ) × IsScanned layout heap cell array place × (element_word layout heap array place ≡ word))
field_is_scanned layout heap cell word (of_slot slot within is) = inl (slot, within, is)
field_is_scanned layout heap cell word (of_property structure array place properties below has is) =
    let count = ap count_of (sym properties.is_structure) ∙ count_of_word structure properties.few in
    inr (array, place, record { named = properties.is_array; within = omega (arith, below, count); has = has }, is)
