-- Store born colour: a mutator colours the cell that it has just taken, black while a cycle marks, and else white.
use Rattle.std.specs.Prelude.{ℕ, ◌≡◌, if◌then◌else◌}
use Rattle.tide_core.specs.machine.May.{RunsAsMutator}
use Rattle.tide_core.specs.machine.World.{World}
use Rattle.tide_core.specs.declared.machine.view.Duty.TheVariants as duty
use Rattle.tide_model.specs.Layout.{Layout}
use Rattle.tide_words.specs.declared.forms.colours.Colour.TheVariants.{Black, White}
use Rattle.tide_words.specs.forms.ColourWord.{colour_word}

-- the cell's colour is owed
pub record MayStoreBorn (layout : Layout) (w : World) (me cell word : ℕ) : Type 0 where
  pub runner : RunsAsMutator layout w me
  pub owed : (w.part me).duty ≡ duty.Born cell
  pub is_word : word ≡ colour_word (w.part me).cycle (if (w.part me).marks then Black else White)
