-- A heap's reading depends on the words of its own regions alone.
use Rattle.tide_model.specs.References.{IsLive}
use Rattle.std.proofs.Common.{ℕ, ◌≡◌, ◌%◌, ◌<◌, sym, ◌∙◌, ap, arith, Bool, true, false, List, inl, inr, length}
use Rattle.std.proofs.lemmas.Bool.{cases_lt, ne_eqb}
use Rattle.std.specs.Prelude.{◌==◌, slice_set}
use Rattle.tide_model.specs.declared.val.Val.{Val}
use Rattle.tide_model.specs.Layout.{Layout, cell_count, array_count, block_of_cell, block_of_array, class_of, slots_of}
use Rattle.tide_model.specs.Refused.{ShapeLists}
use Rattle.tide_model.specs.State.{CellState, Status, live, State, free}
use Rattle.tide_layout.specs.declared.region.Region.{Region}
use Rattle.tide_layout.specs.declared.region.Region.TheVariants.{Claim, Free, Dead}
use Rattle.tide_words.specs.heap.Heap.{Heap, Reads, SameIn, write, heap_of}
use Rattle.std.specs.Int.{bit_at}
use Rattle.tide_words.specs.heap.Reading.{AreArraysRead, AreClaimsRead, BitsAreApart, IsValueOf, IsPairOf, IsStructureOf, status_by, array_status, ReadsAs}
use Rattle.tide_layout.specs.Region.{tag, size_of, place_in, word_count}
use Rattle.tide_layout.specs.Slots.{HasSlot}
use Rattle.tide_layout.proofs.ClassWidths.{slots_of-width}
use Rattle.tide_words.proofs.heap_laws.HeapLaws.{Reads-heap_of, reads_write, write-other_region}
use Rattle.tide_layout.proofs.Places.{tag-injective}

-- a write leaves each other region
pub SameIn-write : (layout : Layout) (heap : Heap) (region other : Region) (index word : ℕ) → (tag other == tag region) ≡ false →
    SameIn layout other heap (write heap region index word)
SameIn-write layout heap region other index word apart at within = write-other_region heap region other index at word apart

-- a region that a test tells from another has another tag
pub tags-apart : (test : Region → Bool) (region other : Region) → test region ≡ false → test other ≡ true → (tag other == tag region) ≡ false
tags-apart test region other is_none is_one = ne_eqb (tag other) (tag region) (λ same. (let also = ap test (tag-injective other region same) in absurd (cc)))

-- two heaps that one list reads as have the same words
pub SameIn-reads : (layout : Layout) (words : List ℕ) (old new : Heap) → Reads layout words old → Reads layout words new →
    (region : Region) → SameIn layout region old new
SameIn-reads layout words old new reads also region index within = sym (also.each region index within) ∙ reads.each region index within

-- a value's word that another word is equal to
pub IsValueOf-same : (value : Val) (old new : ℕ) → new ≡ old → IsValueOf value old → IsValueOf value new
IsValueOf-same value old new same of = record { number = of.number; is_word = of.is_word ∙ sym same }

-- a pair's
pub IsPairOf-same : (key : ℕ) (value : Val) (old new : ℕ) → new ≡ old → IsPairOf key value old → IsPairOf key value new
IsPairOf-same key value old new same of = record { few = of.few; number = of.number; is_word = of.is_word ∙ sym same }

-- a structure's
pub IsStructureOf-same : (shapes : ShapeLists) (keys : List ℕ) (old new : ℕ) → new ≡ old → IsStructureOf shapes keys old → IsStructureOf shapes keys new
IsStructureOf-same shapes keys old new same of = record {
  shape = of.shape;
  is_shape = of.is_shape;
  few_shapes = of.few_shapes;
  few_keys = of.few_keys;
  is_word = of.is_word ∙ sym same;
}

-- the claims
pub AreClaimsRead-same : (layout : Layout) (old new : Heap) (claims : ℕ → List ℕ) → SameIn layout Claim old new → AreClaimsRead layout old claims → AreClaimsRead layout new claims
AreClaimsRead-same layout old new claims same reads = record {
  named = λ cell who within. ((λ is. (reads.named cell who within).0 (sym (same cell within) ∙ is)), (λ claimed. same cell within ∙ (reads.named cell who within).1 claimed));
  unnamed = λ cell within alone. same cell within ∙ reads.unnamed cell within alone;
}

-- a block of cells is one of all blocks
pub block_of_cell-below : (layout : Layout) (cell : ℕ) → cell < cell_count layout → block_of_cell cell < size_of layout Free
block_of_cell-below layout cell within = omega (arith, within)

-- a block of arrays too
pub block_of_array-below : (layout : Layout) (array : ℕ) → array < array_count layout → block_of_array layout array < size_of layout Free
block_of_array-below layout array within = omega (arith, within)

-- what the bits of two equal pairs of words say
pub status_by-same : (old_free new_free old_dead new_dead k : ℕ) (otherwise : Status) → new_free ≡ old_free → new_dead ≡ old_dead →
    status_by new_free new_dead k otherwise ≡ status_by old_free old_dead k otherwise
status_by-same old_free new_free old_dead new_dead k otherwise free_is dead_is =
    ap (λ (word : ℕ). status_by word new_dead k otherwise) free_is ∙ ap (λ (word : ℕ). status_by old_free word k otherwise) dead_is

-- a slot of the cell's class is one of its words
pub HasSlot-class : (layout : Layout) (cell slot : ℕ) → cell < cell_count layout → slot < slots_of (class_of layout cell) → HasSlot layout cell slot
HasSlot-class layout cell slot within below = record {
  cell_within = within;
  slot_within = let wide = slots_of-width (class_of layout cell) in omega (arith, below, wide);
}

-- what became of the arrays
pub AreArraysRead-same : (layout : Layout) (old new : Heap) (cells : ℕ → CellState) (arrays : ℕ → Status) → SameIn layout Free old new → SameIn layout Dead old new →
    AreArraysRead layout old cells arrays → AreArraysRead layout new cells arrays
AreArraysRead-same layout old new cells arrays same_free same_dead reads = record {
  named = λ array within is_named. reads.named array within is_named ∙ sym (as_before array live within);
  unnamed = λ array within not_named. reads.unnamed array within not_named ∙ sym (as_before array _ within);
}
  where
    as_before : (array : ℕ) (otherwise : Status) → array < array_count layout → array_status layout new array otherwise ≡ array_status layout old array otherwise
    as_before array otherwise within =
        let below = block_of_array-below layout array within in
        status_by-same (old Free (block_of_array layout array)) (new Free (block_of_array layout array)) (old Dead (block_of_array layout array)) (new Dead (block_of_array layout array))
        (array % 64) otherwise (same_free (block_of_array layout array) below) (same_dead (block_of_array layout array) below)

-- which bits are apart
pub BitsAreApart-same : (layout : Layout) (old new : Heap) → SameIn layout Free old new → SameIn layout Dead old new → BitsAreApart layout old → BitsAreApart layout new
BitsAreApart-same layout old new same_free same_dead apart block bit within few is_free =
    ap (λ (word : ℕ). bit_at word bit) (same_dead block within)
    ∙ apart block bit within few (sym (ap (λ (word : ℕ). bit_at word bit) (same_free block within)) ∙ is_free)

-- a live cell is of the layout
pub live_within : (layout : Layout) (shapes : ShapeLists) (heap : Heap) (state : State) (cell : ℕ) → ReadsAs layout shapes heap state → IsLive state cell → cell < cell_count layout
live_within layout shapes heap state cell reads alive = elim (cases_lt cell (cell_count layout)) [
  | inl within ↦ within
  | inr past ↦
      let is : (state.cells cell).status ≡ free = ap (λ (held : CellState). held.status) (reads.parts.past_cells cell past) in
      absurd (cc)
]

-- what words read as after one was stored is what they read as, with that word written
pub heap_of-stored : (layout : Layout) (words : List ℕ) (region : Region) (index word : ℕ) → length words ≡ word_count layout → index < size_of layout region →
    (other : Region) → SameIn layout other (write (heap_of layout words) region index word) (heap_of layout (slice_set words (place_in layout region index) word))
heap_of-stored layout words region index word all within =
    let stored = reads_write layout words (heap_of layout words) region index word (Reads-heap_of layout words all) within in
    SameIn-reads layout (slice_set words (place_in layout region index) word) (write (heap_of layout words) region index word)
    (heap_of layout (slice_set words (place_in layout region index) word)) stored (Reads-heap_of layout (slice_set words (place_in layout region index) word) stored.all_words)
