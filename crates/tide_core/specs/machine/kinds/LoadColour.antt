-- Load colour: the barrier of a mutator loads the colour of the cell in which it stored.
use Rattle.std.specs.Prelude.{ℕ, ◌≡◌, if◌then◌else◌}
use Rattle.tide_core.specs.machine.Duties.{GrowsOn}
use Rattle.tide_core.specs.machine.May.{RunsAsMutator}
use Rattle.tide_core.specs.machine.World.{World}
use Rattle.tide_core.specs.declared.machine.view.View.{View}
use Rattle.tide_model.specs.Layout.{Layout}
use Rattle.tide_words.specs.forms.ColourWord.{is_black_in}
use Rattle.tide_core.specs.declared.machine.view.Duty.TheVariants as duty

-- where the cell is black it has to be made grey again; else no more is owed
abbrev pub coloured_view : ℕ → ℕ → View → View
coloured_view cell read v =
    record v { duty = if is_black_in v.mark_version read then duty.Regrey cell read else duty.Nothing }

-- the barrier on the cell is owed, and the cell's growth is over
pub record MayLoadColour (layout : Layout) (w : World) (me cell : ℕ) : Type 0 where
  pub runner : RunsAsMutator layout w me
  pub owed : (w.part me).duty ≡ duty.Barrier cell
  pub grown : GrowsOn (w.part me).growth cell → ⊥
