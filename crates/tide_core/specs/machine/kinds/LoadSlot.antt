-- Load slot: a scan reads a slot of its cell, or an element of the array that it read.
use Rattle.std.specs.Prelude.{ℕ, ◌≡◌, ◌<◌, ◌∷◌, false, Some}
use Rattle.tide_core.specs.machine.May.{RunsAsVisitor}
use Rattle.tide_core.specs.machine.Scanning.{in_scan, and_cell_of}
use Rattle.tide_core.specs.machine.Words.{count_of}
use Rattle.tide_core.specs.machine.World.{World}
use Rattle.tide_core.specs.declared.machine.view.Scan.{Scan}
use Rattle.tide_core.specs.declared.machine.view.View.{View}
use Rattle.tide_model.specs.Layout.{Layout, class_of, slots_of}
use Rattle.tide_words.specs.forms.Reference.{array_word}

-- the slot is read, and the cell in it has to be marked
abbrev pub slot_view : ℕ → ℕ → View → View
slot_view slot read v = record v {
  scan = in_scan v.scan (λ s. Some record s { slots = slot ∷ s.slots; buffer = and_cell_of read s.buffer });
}

-- the element is read, and the cell in it has to be marked
abbrev pub scanned_element_view : ℕ → ℕ → View → View
scanned_element_view place read v = record v {
  scan = in_scan v.scan (λ s. Some record s { elements = place ∷ s.elements; buffer = and_cell_of read s.buffer });
}

-- the scan of the cell hasn't read the structure again
pub record MayLoadSlot (layout : Layout) (w : World) (me cell slot : ℕ) : Type 0 where
  pub runner : RunsAsVisitor layout w me
  pub scan : Scan
  pub is : (w.part me).scan ≡ Some scan
  pub of_cell : scan.cell ≡ cell
  pub within : slot < slots_of (class_of layout cell)
  pub goes_on : scan.raced ≡ false
  pub once : scan.agreed ≡ false

-- the scan has read this array, and the place is one of its first reading's properties
pub record MayLoadElementOf (layout : Layout) (w : World) (me array place : ℕ) : Type 0 where
  pub runner : RunsAsVisitor layout w me
  pub scan : Scan
  pub is : (w.part me).scan ≡ Some scan
  pub first : ℕ
  pub was_read : scan.first ≡ Some first
  pub of_array : scan.array ≡ Some (array_word (Some array))
  pub within : place < count_of first
  pub goes_on : scan.raced ≡ false
  pub once : scan.agreed ≡ false
