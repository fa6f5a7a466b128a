-- What is left of a heap where one word of it changes, or one bit of one.
use Rattle.std.proofs.Common.{ℕ, ◌≡◌, ◌≢◌, ◌<◌, ◌∙◌, ap, subst, sym, false, inl, inr}
use Rattle.std.proofs.lemmas.Bool.{cases_eq}
use Rattle.std.specs.Int.{bit_at}
use Rattle.std.specs.Prelude.{◌==◌}
use Rattle.tide_block.specs.Bits.{IsWithBit}
use Rattle.tide_block.proofs.BitLaws.{with_bit-here, with_bit-other}
use Rattle.tide_layout.specs.declared.region.Region.{Region}
use Rattle.tide_layout.specs.Region.{size_of, tag}
use Rattle.tide_model.specs.Layout.{Layout}
use Rattle.tide_words.specs.heap.Heap.{Heap, SameIn}
use Rattle.tide_words.specs.heap.Written.{IsBitPut, IsWritten}
use Rattle.tide_words.proofs.heap_laws.HeapLaws.{write-other_index, write-same}
use Rattle.tide_words.proofs.heap_laws.ReadingLaws.{SameIn-write}

-- the word that was written
pub written-here : (layout : Layout) (old new : Heap) (region : Region) (index word : ℕ) → IsWritten layout old new region index word → index < size_of layout region →
    new region index ≡ word
written-here layout old new region index word written inside = written region index inside ∙ write-same old region index word

-- another word of the region
pub written-other_word : (layout : Layout) (old new : Heap) (region : Region) (index word at : ℕ) → IsWritten layout old new region index word → at < size_of layout region →
    at ≢ index → new region at ≡ old region at
written-other_word layout old new region index word at written inside apart = written region at inside ∙ write-other_index old region index at word apart

-- the words of another region
pub written-other_region : (layout : Layout) (old new : Heap) (region : Region) (index word : ℕ) → IsWritten layout old new region index word →
    (other : Region) → (tag other == tag region) ≡ false → SameIn layout other old new
written-other_region layout old new region index word written other apart at inside =
    written other at inside ∙ SameIn-write layout old region other index word apart at inside

-- a word was written in which one bit is put
pub IsBitPut-written : (layout : Layout) (old new : Heap) (region : Region) (index bit value word : ℕ) → index < size_of layout region →
    IsWithBit (old region index) word bit value → IsWritten layout old new region index word → IsBitPut layout old new region index bit value
IsBitPut-written layout old new region index bit value word inside changed written = record {
  others = written-other_region layout old new region index word written;
  other_words = λ at within apart. written-other_word layout old new region index word at written within apart;
  bits = subst (λ (w : ℕ). IsWithBit (old region index) w bit value) (sym (written-here layout old new region index word written inside)) changed;
}

-- the bit that was put
pub put-here : (layout : Layout) (old new : Heap) (region : Region) (index bit value : ℕ) → IsBitPut layout old new region index bit value → bit < 64 →
    bit_at (new region index) bit ≡ value
put-here layout old new region index bit value put inside = with_bit-here (old region index) (new region index) bit value inside put.bits

-- another bit of the region
pub put-elsewhere : (layout : Layout) (old new : Heap) (region : Region) (index bit value at k : ℕ) → IsBitPut layout old new region index bit value →
    at < size_of layout region → k < 64 → (at ≡ index → k ≢ bit) → bit_at (new region at) k ≡ bit_at (old region at) k
put-elsewhere layout old new region index bit value at k put within inside apart = elim (cases_eq at index) [
  | inl here ↦
      ap (λ (n : ℕ). bit_at (new region n) k) here ∙ with_bit-other (old region index) (new region index) bit value k inside (apart here) put.bits
      ∙ ap (λ (n : ℕ). bit_at (old region n) k) (sym here)
  | inr other ↦ ap (λ (w : ℕ). bit_at w k) (put.other_words at within other)
]
