-- Load structure again: a scan that has read all of its cell reads the structure for the second time.
use Rattle.std.specs.Prelude.{ℕ, ◌≡◌, ◌≢◌, ◌<◌, true, false, None, Some}
use Rattle.tide_core.specs.machine.May.{RunsAsVisitor}
use Rattle.tide_core.specs.machine.Scanning.{in_scan, read_again}
use Rattle.tide_core.specs.machine.Words.{count_of, is_nuked}
use Rattle.tide_core.specs.machine.World.{World}
use Rattle.tide_core.specs.declared.machine.view.Scan.{Scan}
use Rattle.tide_core.specs.declared.machine.view.View.{View}
use Rattle.tide_model.specs.Layout.{Layout, class_of, slots_of}
use Rattle.tide_model.specs.Numbers.{is_among}

-- where both readings agree it marks what it read, and else it has met a race
abbrev pub again_view : ℕ → View → View
again_view read v = record v { scan = in_scan v.scan (λ s. read_again read s s.first) }

-- the scan of the cell has read a whole structure, the array, each slot, and each element that has a property
pub record MayLoadAgain (layout : Layout) (w : World) (me cell : ℕ) : Type 0 where
  pub runner : RunsAsVisitor layout w me
  pub scan : Scan
  pub is : (w.part me).scan ≡ Some scan
  pub of_cell : scan.cell ≡ cell
  pub first : ℕ
  pub was_read : scan.first ≡ Some first
  pub whole : is_nuked first ≡ false
  pub array : scan.array ≢ None
  pub slots : (slot : ℕ) → slot < slots_of (class_of layout cell) → is_among scan.slots slot ≡ true
  pub elements : (place : ℕ) → place < count_of first → is_among scan.elements place ≡ true
  pub goes_on : scan.raced ≡ false
  pub once : scan.agreed ≡ false
