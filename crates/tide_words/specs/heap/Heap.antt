-- What the words of a heap say, as a function of region and index.
use Rattle.std.specs.Prelude.{ℕ, ◌≡◌, ◌<◌, ◌==◌, ◌&&◌, List, length, slice_index, if◌then◌else◌}
use Rattle.tide_model.specs.Layout.{Layout}
use Rattle.tide_layout.specs.declared.region.Region.{Region}
use Rattle.tide_layout.specs.Region.{tag, size_of, word_count, place_in}

-- the word at each index of each region
abbrev pub Heap : Type 0
Heap = Region → ℕ → ℕ

-- the heap with another word at one index of one region
abbrev pub write : Heap → Region → ℕ → ℕ → Heap
write heap region index word other at = if (tag other == tag region) && (at == index) then word else heap other at

-- the list holds, at the place of each word of the layout, what the heap says
pub record Reads (layout : Layout) (words : List ℕ) (heap : Heap) : Type 0 where
  pub all_words : length words ≡ word_count layout
  pub each : (region : Region) (index : ℕ) → index < size_of layout region → slice_index words (place_in layout region index) ≡ heap region index

-- the heap that a list of words reads as
abbrev pub heap_of : Layout → List ℕ → Heap
heap_of layout words region index = slice_index words (place_in layout region index)

-- two heaps have the same words in a region
abbrev pub SameIn : Layout → Region → Heap → Heap → Type 0
SameIn layout region old new = (index : ℕ) → index < size_of layout region → new region index ≡ old region index
