-- How a heap's meaning changes by a write to one of its words.
use Rattle.std.proofs.Common.{ℕ, ◌≡◌, ◌<◌, refl, sym, ◌∙◌, ap, arith, false, List, length, get_or, inl, inr, length-set, subst}
use Rattle.std.specs.Prelude.{◌==◌, slice_set}
use Rattle.std.proofs.lemmas.Bool.{cases_eq, ne_eqb}
use Rattle.std.proofs.lemmas.Grind.{get_or-set_at}
use Rattle.std.proofs.lemmas.List.{get_or-set_other}
use Rattle.std.proofs.lemmas.Bool.Decides.{nat_tests}
use Rattle.tide_model.specs.Layout.{Layout}
use Rattle.tide_layout.specs.declared.region.Region.{Region}
use Rattle.tide_words.specs.heap.Heap.{Heap, write, Reads, heap_of}
use Rattle.tide_layout.specs.Region.{tag, size_of, place_in, word_count}
use Rattle.tide_layout.proofs.Places.{place_in-below, place_in-other_index, place_in-other_region, tag-injective}

-- the word that was written
pub write-same : (heap : Heap) (region : Region) (index word : ℕ) → write heap region index word region index ≡ word
write-same heap region index word = grind (arith, nat_tests)

-- a word of another region
pub write-other_region : (heap : Heap) (region other : Region) (index at word : ℕ) → (tag other == tag region) ≡ false →
    write heap region index word other at ≡ heap other at
write-other_region heap region other index at word apart = grind (arith, nat_tests)

-- another word of the region
pub write-other_index : (heap : Heap) (region : Region) (index at word : ℕ) → (at ≡ index → ⊥) →
    write heap region index word region at ≡ heap region at
write-other_index heap region index at word apart = grind (arith, nat_tests)

-- a list of as many words as the layout has reads as some heap
pub Reads-heap_of : (layout : Layout) (words : List ℕ) → length words ≡ word_count layout → Reads layout words (heap_of layout words)
Reads-heap_of layout words all = record { all_words = all; each = λ region index within. refl }

-- a word stored at a place is a write to the heap
pub reads_write : (layout : Layout) (words : List ℕ) (heap : Heap) (region : Region) (index word : ℕ) →
    Reads layout words heap → index < size_of layout region →
    Reads layout (slice_set words (place_in layout region index) word) (write heap region index word)
reads_write layout words heap region index word reads within = record {
  all_words = length-set words (place_in layout region index) word ∙ reads.all_words;
  each = λ other at in_other. elim (cases_eq (tag other) (tag region)) [
    | inl same ↦
        let is : region ≡ other = sym (tag-injective other region same) in
        let here = subst (λ (r : Region). at < size_of layout r) (sym is) in_other in
        subst (λ (r : Region). get_or (slice_set words (place_in layout region index) word) (place_in layout r at) 0 ≡ write heap region index word r at) is (of_region at here)
    | inr apart ↦
        let tests = ne_eqb (tag other) (tag region) apart in
        get_or-set_other words (place_in layout region index) (place_in layout other at) word 0 (place_in-other_region layout other region at index tests in_other within)
        ∙ reads.each other at in_other ∙ sym (write-other_region heap region other index at word tests)
  ];
}
  where
    of_region : (at : ℕ) → at < size_of layout region →
        get_or (slice_set words (place_in layout region index) word) (place_in layout region at) 0 ≡ write heap region index word region at
    of_region at here = elim (cases_eq at index) [
      | inl same ↦
          let below = place_in-below layout region index within in
          let all = reads.all_words in
          get_or-set_at words (place_in layout region index) (place_in layout region at) word 0 (ap (place_in layout region) same) (omega (arith, below, all))
          ∙ sym (ap (write heap region index word region) same ∙ write-same heap region index word)
      | inr apart ↦
          get_or-set_other words (place_in layout region index) (place_in layout region at) word 0
          (λ equal. apart (place_in-other_index layout region at index equal))
          ∙ reads.each region at here ∙ sym (write-other_index heap region index at word apart)
    ]
