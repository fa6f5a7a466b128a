-- Un-blacken: a scan that has met a race makes its cell grey again, and ends.
use Rattle.std.specs.Prelude.{ℕ, ◌≡◌, ◌+◌, true, ◌==◌, if◌then◌else◌, None, Some}
use Rattle.tide_core.specs.machine.May.{RunsAsVisitor}
use Rattle.tide_core.specs.machine.World.{World}
use Rattle.tide_core.specs.declared.machine.view.Duty.TheVariants as duty
use Rattle.tide_core.specs.declared.machine.view.Scan.{Scan}
use Rattle.tide_core.specs.declared.machine.view.View.{View}
use Rattle.tide_model.specs.Layout.{Layout}
use Rattle.tide_words.specs.declared.forms.colours.Colour.TheVariants.{Black}
use Rattle.tide_words.specs.forms.ColourWord.{colour_word}

-- the one that made the cell grey has to push it
abbrev pub un_blackened_view : ℕ → ℕ → ℕ → View → View
un_blackened_view cell cycle read v = record v {
  scan = None;
  races = v.races + 1;
  duty = if read == colour_word cycle Black then duty.PushRace cell else v.duty;
}

-- the scan of the cell has met a race
pub record MayUnBlacken (layout : Layout) (w : World) (me cell cycle : ℕ) : Type 0 where
  pub runner : RunsAsVisitor layout w me
  pub scan : Scan
  pub is : (w.part me).scan ≡ Some scan
  pub of_cell : scan.cell ≡ cell
  pub raced : scan.raced ≡ true
  pub in_cycle : cycle ≡ (w.part me).cycle
