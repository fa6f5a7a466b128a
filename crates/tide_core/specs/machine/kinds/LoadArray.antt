-- Load array: a scan reads its cell's array, after the structure.
use Rattle.std.specs.Prelude.{ℕ, ◌≡◌, ◌≢◌, false, None, Some}
use Rattle.tide_core.specs.machine.May.{RunsAsVisitor}
use Rattle.tide_core.specs.machine.Scanning.{in_scan}
use Rattle.tide_core.specs.machine.World.{World}
use Rattle.tide_core.specs.declared.machine.view.Scan.{Scan}
use Rattle.tide_core.specs.declared.machine.view.View.{View}
use Rattle.tide_model.specs.Layout.{Layout}

-- the array's word is known to the scan
abbrev pub scanned_array_view : ℕ → View → View
scanned_array_view read v = record v { scan = in_scan v.scan (λ s. Some record s { array = Some read }) }

-- the scan of the cell has read a whole structure, and hasn't read it again
pub record MayLoadArray (layout : Layout) (w : World) (me cell : ℕ) : Type 0 where
  pub runner : RunsAsVisitor layout w me
  pub scan : Scan
  pub is : (w.part me).scan ≡ Some scan
  pub of_cell : scan.cell ≡ cell
  pub read : scan.first ≢ None
  pub array : scan.array ≡ None
  pub goes_on : scan.raced ≡ false
  pub once : scan.agreed ≡ false
