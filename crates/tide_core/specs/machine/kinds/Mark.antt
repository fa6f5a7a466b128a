-- Mark: a scan makes a cell grey over the colour word that it loaded, and holds it.
use Rattle.std.specs.Prelude.{ℕ, ◌≡◌, ◌∷◌, true, ◌==◌, Contains, if◌then◌else◌, None, Some, false}
use Rattle.tide_core.specs.machine.May.{RunsAsVisitor}
use Rattle.tide_core.specs.machine.Scanning.{in_scan, still_open, leave_out}
use Rattle.tide_core.specs.machine.World.{World}
use Rattle.tide_core.specs.declared.machine.view.Scan.{Scan}
use Rattle.tide_core.specs.declared.machine.view.View.{View}
use Rattle.tide_model.specs.Layout.{Layout}
use Rattle.tide_words.specs.forms.ColourWord.{is_marked_in}

-- the one that made it grey holds it; where the word had changed another one marked it
abbrev pub marked_view : ℕ → ℕ → ℕ → View → View
marked_view cell old read v = record v {
  held = if read == old then cell ∷ v.held else v.held;
  scan = in_scan v.scan (λ s. still_open (record s { buffer = leave_out cell s.buffer; target = None }));
}

-- the cell is the target of a scan that agreed, and this is the word that was read of it, which isn't a marked cell's
pub record MayMark (layout : Layout) (w : World) (me cell old cycle : ℕ) : Type 0 where
  pub runner : RunsAsVisitor layout w me
  pub scan : Scan
  pub is : (w.part me).scan ≡ Some scan
  pub agreed : scan.agreed ≡ true
  pub has : Contains scan.buffer cell
  pub target : scan.target ≡ Some record { cell = cell; word = old }
  pub white : is_marked_in (w.part me).mark_version old ≡ false
  pub in_cycle : cycle ≡ (w.part me).cycle
