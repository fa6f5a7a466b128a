-- Nuke: a growth stores the structure's word with the mark that the array changes, once it owes no element.
use Rattle.std.specs.Prelude.{ℕ, ◌≡◌, []}
use Rattle.tide_words.specs.tide_layout.declared.region.Region.TheVariants as region
use Rattle.tide_core.specs.machine.Duties.{nuked_growth}
use Rattle.tide_core.specs.machine.May.{RunsAsMutator}
use Rattle.tide_core.specs.machine.Owed.{Owes}
use Rattle.tide_core.specs.machine.Words.{nuked_word}
use Rattle.tide_core.specs.machine.World.{World}
use Rattle.tide_core.specs.declared.machine.view.Growth.TheVariants as growth
use Rattle.tide_core.specs.declared.machine.view.View.{View}
use Rattle.tide_model.specs.Layout.{Layout}

-- the growth goes on
abbrev pub nuked_view : View → View
nuked_view v = record v { growth = nuked_growth v.growth; known = [] }

-- the growth has filled its array, and the word is the old structure's with the mark
pub record MayNuke (layout : Layout) (w : World) (me cell word : ℕ) : Type 0 where
  pub runner : RunsAsMutator layout w me
  pub array : ℕ
  pub old : ℕ
  pub next : ℕ
  pub stage : (w.part me).growth ≡ growth.Filling cell array old next
  pub filled : (index x : ℕ) → Owes (w.part me) region.Elements index x → ⊥
  pub is_word : word ≡ nuked_word old
