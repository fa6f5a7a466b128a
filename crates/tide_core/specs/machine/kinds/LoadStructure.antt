-- Load structure: a scan reads its cell's structure for the first time.
use Rattle.std.specs.Prelude.{false, ℕ, ◌≡◌, None, Some}
use Rattle.tide_core.specs.machine.May.{RunsAsVisitor}
use Rattle.tide_core.specs.machine.Scanning.{in_scan}
use Rattle.tide_core.specs.machine.Words.{is_nuked}
use Rattle.tide_core.specs.machine.World.{World}
use Rattle.tide_core.specs.declared.machine.view.Scan.{Scan}
use Rattle.tide_core.specs.declared.machine.view.View.{View}
use Rattle.tide_model.specs.Layout.{Layout}

-- a nuked structure is a race
abbrev pub structure_view : ℕ → View → View
structure_view read v = record v {
  scan =
      in_scan v.scan (λ s. Some record s { first = Some read; raced = is_nuked read });
}

-- the scan of the cell has no first reading
pub record MayLoadStructure (layout : Layout) (w : World) (me cell : ℕ) : Type 0 where
  pub runner : RunsAsVisitor layout w me
  pub scan : Scan
  pub is : (w.part me).scan ≡ Some scan
  pub of_cell : scan.cell ≡ cell
  pub first : scan.first ≡ None
  pub goes_on : scan.raced ≡ false
  pub once : scan.agreed ≡ false
