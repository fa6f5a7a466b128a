-- What a growth owes between its steps, and what it leaves.
use Rattle.std.specs.Prelude.{ℕ, ◌≡◌, ◌<◌, true, List, [], ◌∷◌, slice_index, Some}
use Rattle.tide_mutator.specs.owed.Made.{shown}
use Rattle.tide_mutator.specs.declared.owed.growth.Growth.{Growth}
use Rattle.tide_heap.specs.tide_layout.declared.region.Region.TheVariants as region
use Rattle.tide_heap.specs.tide_core.machine.Owed.{owed_elements, owed_word}
use Rattle.tide_heap.specs.tide_core.declared.machine.view.Growth.{Growth as Stage}
use Rattle.tide_heap.specs.tide_core.declared.machine.view.Growth.TheVariants as growing
use Rattle.tide_heap.specs.tide_core.declared.machine.view.Owed.{Owed}
use Rattle.tide_heap.specs.tide_core.declared.machine.view.View.{View}
use Rattle.tide_model.specs.Layout.{Layout}
use Rattle.tide_model.specs.declared.val.Val.{Val}
use Rattle.tide_heap.specs.tide_words.forms.Reference.{array_word}
use Rattle.tide_heap.specs.tide_words.forms.ValueWord.{val_word}

-- the view as it will be once its growth is over, if it changes nothing else
abbrev pub grown_out : View → View
grown_out v = record v { growth = growing.Nothing }

-- A mutator that runs has come to this stage of a growth, and owes these words. Since the first view nothing changed
-- but these two, and the words that it knows.
pub record IsGrowing (layout : Layout) (v u : View) (at : Stage) (debts : List Owed) : Type 0 where
  pub is_mutator : u.who < layout.mutators
  pub runs : u.runs ≡ true
  pub shown : shown (grown_out u) ≡ shown (grown_out v)
  pub stage : u.growth ≡ at
  pub owed : u.owed ≡ debts
  pub duty : u.duty ≡ v.duty

-- The mutator still fills the array that it took: of the first elements it owes these words, and the array's and the
-- structure's.
pub record OwesGrowth (layout : Layout) (v u : View) (growth : Growth) (taken : ℕ) (words : List ℕ) (left : ℕ)
    : Type 0 where
  pub properties : ℕ → Val
  pub holds : IsGrowing layout v u
      (growing.Filling growth.addition.cell taken growth.old growth.next)
      (owed_word region.Structure growth.addition.cell growth.next
      ∷ owed_word region.Array growth.addition.cell (array_word (Some taken))
      ∷ owed_elements layout properties taken left)
  pub words_are : (place : ℕ) → place < left → slice_index words place ≡ val_word (properties place)

-- the growth is over, and of its words none is owed
pub record HasReplaced (v u : View) : Type 0 where
  pub shown : shown u ≡ shown (grown_out v)
  pub owed : u.owed ≡ []
  pub duty : u.duty ≡ v.duty
