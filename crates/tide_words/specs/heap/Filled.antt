-- A region whose words were all set to one word.
use Rattle.std.specs.Prelude.{◌≡◌, ℕ, ◌<◌, ◌==◌, false, List, length, slice_index}
use Rattle.tide_model.specs.Layout.{Layout}
use Rattle.tide_layout.specs.declared.region.Region.{Region}
use Rattle.tide_layout.specs.Region.{tag, size_of, place_in}

-- the first places of the region hold the word, and each place of another region what it held
pub record IsFilledTo (layout : Layout) (region : Region) (word count : ℕ) (old new : List ℕ) : Type 0 where
  pub len : length new ≡ length old
  pub filled : (index : ℕ) → index < count → slice_index new (place_in layout region index) ≡ word
  pub others : (other : Region) (index : ℕ) → index < size_of layout other → (tag other == tag region) ≡ false →
      slice_index new (place_in layout other index) ≡ slice_index old (place_in layout other index)
