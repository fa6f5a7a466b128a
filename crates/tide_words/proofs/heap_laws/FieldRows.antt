-- The fields of the first cell of an empty heap, and some that are not.
use Rattle.std.proofs.Common.{ℕ, ◌≡◌, refl, arith}
use Rattle.tide_words.specs.declared.heap.fields.Fields.{Fields}
use Rattle.tide_words.specs.heap.EmptyHeap.{empty_heap}
use Rattle.tide_words.specs.heap.Fields.{AreFieldsOf}
use Rattle.tide_words.proofs.heap_laws.FieldLaws.{AreFieldsOf-none}
use Rattle.tide_words.proofs.marking_laws.ReadingRows.{small}

-- so many slots of a cell, and no properties
abbrev slots_alone : ℕ → ℕ → Fields
slots_alone cell slots = record { cell = cell; slots = slots; array = 0; properties = 0 }

-- a cell of class 0 has its two slots
both_slots : AreFieldsOf small empty_heap 0 (slots_alone 0 2)
both_slots = AreFieldsOf-none small empty_heap 0 2 0 0 (omega arith) refl refl (λ structure array has below. omega (arith, below))

-- and not the first alone, though the second has the same word
slot_left_out : AreFieldsOf small empty_heap 0 (slots_alone 0 1) → ⊥
slot_left_out are = let slots : 1 ≡ 2 = are.all_slots in omega (arith, slots)

-- nor those of another cell, though they have the same words
of_another_cell : AreFieldsOf small empty_heap 0 (slots_alone 1 2) → ⊥
of_another_cell are = let cell : 1 ≡ 0 = are.of_cell in omega (arith, cell)
