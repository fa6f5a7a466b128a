-- Regrey: a barrier that found its cell black makes it grey again, if it is black still.
use Rattle.std.specs.Prelude.{ℕ, ◌≡◌, ◌<◌, ◌==◌, if◌then◌else◌, true}
use Rattle.tide_core.specs.machine.Duties.{GrowsOn}
use Rattle.tide_core.specs.machine.May.{RunsAsMutator}
use Rattle.tide_core.specs.machine.World.{World}
use Rattle.tide_core.specs.declared.machine.view.View.{View}
use Rattle.tide_model.specs.Layout.{Layout, cell_count}
use Rattle.tide_words.specs.forms.ColourWord.{is_black_in}
use Rattle.tide_core.specs.declared.machine.view.Duty.TheVariants as duty

-- the one that made the cell grey has to push it
abbrev pub regreyed_view : ℕ → ℕ → ℕ → View → View
regreyed_view cell old read v =
    record v { duty = if read == old then duty.Push cell else duty.Nothing }

-- the barrier found the cell black, with this word
pub record MayRegrey (layout : Layout) (w : World) (me cell old cycle : ℕ) : Type 0 where
  pub runner : RunsAsMutator layout w me
  pub owed : (w.part me).duty ≡ duty.Regrey cell old
  pub black : is_black_in (w.part me).mark_version old ≡ true
  pub within : cell < cell_count layout
  pub in_cycle : cycle ≡ (w.part me).cycle
  pub grown : GrowsOn (w.part me).growth cell → ⊥
