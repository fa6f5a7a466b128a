-- The words of a growth.
use Rattle.std.specs.Prelude.{ℕ, ◌≡◌, ◌≢◌, ◌+◌, ◌%◌, ◌<◌, ◌==◌, Bool, true, false, Option, Some}
use Rattle.tide_model.specs.declared.val.Val.{Val}
use Rattle.tide_model.specs.Layout.{Layout, block_of_array, cell_count}
use Rattle.tide_words.specs.tide_layout.declared.region.Region.{Region}
use Rattle.tide_words.specs.tide_layout.declared.region.Region.TheVariants.{Array, Elements, Free, Structure}
use Rattle.tide_words.specs.heap.Heap.{Heap, SameIn}
use Rattle.tide_words.specs.heap.Reading.{element_word}
use Rattle.tide_words.specs.forms.Reference.{array_word}
use Rattle.tide_words.specs.tide_layout.Region.{tag}
use Rattle.tide_words.specs.tide_layout.Slots.{HasElement}
use Rattle.tide_words.specs.forms.ValueWord.{val_word}
use Rattle.tide_call.specs.Taken.{IsTakenBit}
use Rattle.tide_call.specs.ShapeWord.{whole_word}

-- a region of which a growth writes a word
abbrev pub is_grown_region : Region → Bool
is_grown_region Structure = true
is_grown_region Array = true
is_grown_region Elements = true
is_grown_region Free = true
is_grown_region _ = false

-- the words of a growth, in whatever order they were stored
pub record IsGrown (layout : Layout) (old new : Heap) (cell taken : ℕ) (from : Option ℕ) (count shape : ℕ) (value : Val)
    : Type 0 where
  pub others : (region : Region) → is_grown_region region ≡ false → SameIn layout region old new
  pub free_bit : IsTakenBit layout old new (block_of_array layout taken) (taken % 64)
  pub structures : (x : ℕ) → x < cell_count layout → x ≢ cell → new Structure x ≡ old Structure x
  pub structure : new Structure cell ≡ whole_word shape (count + 1)
  pub arrays : (x : ℕ) → x < cell_count layout → x ≢ cell → new Array x ≡ old Array x
  pub array : new Array cell ≡ array_word (Some taken)
  pub elements : (other place : ℕ) → HasElement layout other place → other ≢ taken →
      element_word layout new other place ≡ element_word layout old other place
  pub copied : (source place : ℕ) → from ≡ Some source → HasElement layout source place → place < count →
      element_word layout new taken place ≡ element_word layout old source place
  pub last : element_word layout new taken count ≡ val_word value

-- the first elements of one array, if there is one, were copied to another, of which other elements may have changed
-- too
pub record AreCopied (layout : Layout) (old new : Heap) (from : Option ℕ) (taken count : ℕ) : Type 0 where
  pub others : (region : Region) → (tag region == tag Elements) ≡ false → SameIn layout region old new
  pub elements : (other place : ℕ) → HasElement layout other place → other ≢ taken →
      element_word layout new other place ≡ element_word layout old other place
  pub copied : (source place : ℕ) → from ≡ Some source → HasElement layout source place → place < count →
      element_word layout new taken place ≡ element_word layout old source place
