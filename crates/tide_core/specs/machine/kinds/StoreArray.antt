-- Store array: a growth stores the new array in its cell; the claimer of a cell loads its array's word.
use Rattle.std.specs.Prelude.{ℕ, ◌≡◌, ◌∷◌, [], Contains}
use Rattle.tide_words.specs.tide_layout.declared.region.Region.TheVariants as region
use Rattle.tide_core.specs.machine.Duties.{stored_growth}
use Rattle.tide_core.specs.machine.May.{RunsAsMutator}
use Rattle.tide_core.specs.machine.Owed.{owed_word, without_word}
use Rattle.tide_core.specs.machine.World.{World}
use Rattle.tide_core.specs.declared.machine.view.Growth.TheVariants as growth
use Rattle.tide_core.specs.declared.machine.view.View.{View}
use Rattle.tide_model.specs.History.{state_after}
use Rattle.tide_model.specs.Layout.{Layout}

-- the growth goes on, and the array's word is owed no more
abbrev pub stored_array_view : ℕ → View → View
stored_array_view cell v =
    record v { growth = stored_growth v.growth; owed = without_word region.Array cell v.owed; known = [] }

-- the growth has nuked the structure
pub record MayStoreArray (layout : Layout) (w : World) (me cell array : ℕ) : Type 0 where
  pub runner : RunsAsMutator layout w me
  pub old : ℕ
  pub next : ℕ
  pub stage : (w.part me).growth ≡ growth.Nuked cell array old next

-- the array's word is known
abbrev pub own_array_view : ℕ → ℕ → View → View
own_array_view cell read v = record v { known = owed_word region.Array cell read ∷ v.known }

-- the mutator claims the cell, grows no array, and owes nothing
pub record MayLoadOwn (layout : Layout) (w : World) (me cell : ℕ) : Type 0 where
  pub runner : RunsAsMutator layout w me
  pub claimed : Contains ((state_after layout w.log).claims me) cell
  pub grows_not : (w.part me).growth ≡ growth.Nothing
  pub owes_not : (w.part me).owed ≡ []
