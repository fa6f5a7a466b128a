-- Load target's colour: a scan whose readings agreed loads the colour of a cell that it read.
use Rattle.std.specs.Prelude.{ℕ, ◌≡◌, true, Contains, if◌then◌else◌, None, Some}
use Rattle.tide_core.specs.machine.May.{RunsAsVisitor}
use Rattle.tide_core.specs.machine.Scanning.{in_scan, still_open, leave_out}
use Rattle.tide_core.specs.machine.World.{World}
use Rattle.tide_core.specs.declared.machine.view.Scan.{Scan}
use Rattle.tide_core.specs.declared.machine.view.View.{View}
use Rattle.tide_model.specs.Layout.{Layout}
use Rattle.tide_words.specs.forms.ColourWord.{is_marked_in}

-- a marked cell leaves the buffer; an unmarked one is to be marked over the word that was read
abbrev pub target_view : ℕ → ℕ → View → View
target_view cell read v = record v {
  scan = in_scan v.scan (λ s. if is_marked_in v.mark_version read
      then still_open (record s { buffer = leave_out cell s.buffer; target = None })
      else Some record s { target = Some record { cell = cell; word = read } });
}

-- the cell is in the buffer of a scan that agreed
pub record MayLoadTarget (layout : Layout) (w : World) (me cell : ℕ) : Type 0 where
  pub runner : RunsAsVisitor layout w me
  pub scan : Scan
  pub is : (w.part me).scan ≡ Some scan
  pub agreed : scan.agreed ≡ true
  pub has : Contains scan.buffer cell
