-- How one word of a heap changes, or one bit of it.
use Rattle.std.specs.Prelude.{ℕ, ◌≡◌, ◌≢◌, ◌<◌, ◌==◌, false}
use Rattle.tide_block.specs.Bits.{IsWithBit}
use Rattle.tide_layout.specs.declared.region.Region.{Region}
use Rattle.tide_layout.specs.Region.{tag, size_of}
use Rattle.tide_model.specs.Layout.{Layout}
use Rattle.tide_words.specs.heap.Heap.{Heap, SameIn, write}

-- one word of a region was written, and all else is as it was
abbrev pub IsWritten : Layout → Heap → Heap → Region → ℕ → ℕ → Type 0
IsWritten layout old new region index word = (other : Region) → SameIn layout other (write old region index word) new

-- one bit of one word of a region has this value, and all else is as it was
pub record IsBitPut (layout : Layout) (old new : Heap) (region : Region) (index bit value : ℕ) : Type 0 where
  pub others : (other : Region) → (tag other == tag region) ≡ false → SameIn layout other old new
  pub other_words : (at : ℕ) → at < size_of layout region → at ≢ index → new region at ≡ old region at
  pub bits : IsWithBit (old region index) (new region index) bit value
