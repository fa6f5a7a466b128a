-- A region filled place by place, and the words of the empty heap.
use Rattle.std.proofs.Common.{◌≡◌, ℕ, ◌+◌, ◌-◌, ◌^◌, ◌<◌, ◌==◌, refl, ap, ◌∙◌, arith, false, List, length, get_or, set, replicate, inl, inr, length-set}
use Rattle.std.proofs.lemmas.Bool.{cases_eq}
use Rattle.std.proofs.lemmas.List.{get_or-set_other, get_or-replicate, length-replicate}
use Rattle.std.proofs.lemmas.Grind.{get_or-set_at}
use Rattle.tide_model.specs.Layout.{Layout}
use Rattle.tide_layout.specs.declared.region.Region.{Region}
use Rattle.tide_layout.specs.declared.region.Region.TheVariants.{Period, Phase, Base, Active, Call, Stopped, Registers, Strong, Weak, Colour, Structure, Array, Claim, Group, Slots, Elements, Free, Dead, GreyShared, GreyMutator, GreyRace, Swept}
use Rattle.tide_layout.specs.Region.{tag, size_of, word_count, place_in, block_count}
use Rattle.tide_words.specs.heap.EmptyHeap.{empty_heap}
use Rattle.tide_words.specs.heap.Filled.{IsFilledTo}
use Rattle.tide_words.specs.heap.Heap.{Reads}
use Rattle.tide_layout.proofs.Places.{place_in-below, place_in-other_index, place_in-other_region}

-- nothing is filled yet
pub IsFilledTo-none : (layout : Layout) (region : Region) (word : ℕ) (words : List ℕ) → IsFilledTo layout region word 0 words words
IsFilledTo-none layout region word words = record {
  len = refl;
  filled = λ index below. absurd (omega arith);
  others = λ other index within apart. refl;
}

-- one place more
pub IsFilledTo-more : (layout : Layout) (region : Region) (word count : ℕ) (old new : List ℕ) →
    length old ≡ word_count layout → count < size_of layout region → IsFilledTo layout region word count old new →
    IsFilledTo layout region word (count + 1) old (set new (place_in layout region count) word)
IsFilledTo-more layout region word count old new whole within before =
    let place = place_in layout region count in
    let below = place_in-below layout region count within in
    record {
      len = length-set new place word ∙ before.len;
      filled = λ index h. elim (cases_eq index count) [
        | inl same ↦ get_or-set_at new place (place_in layout region index) word 0 (ap (place_in layout region) same) (let len = before.len in omega (arith, below))
        | inr apart ↦ get_or-set_other new place (place_in layout region index) word 0 (λ same. apart (place_in-other_index layout region index count same))
            ∙ before.filled index (omega arith)
      ];
      others = λ other index in_other apart.
          get_or-set_other new place (place_in layout other index) word 0
          (λ same. place_in-other_region layout other region index count apart in_other within same)
          ∙ before.others other index in_other apart;
    }

-- zeros, with the base 1, each mutator active and each bit of the free words set, are the empty heap
module _ (layout : Layout) (zeros based active words : List ℕ) (all_zero : zeros ≡ replicate (word_count layout) 0)
    (base : IsFilledTo layout Base 1 1 zeros based)
    (first : IsFilledTo layout Active 1 layout.mutators based active)
    (second : IsFilledTo layout Free (2 ^ 64 - 1) (block_count layout) active words) where
  zero : (region : Region) (index : ℕ) → index < size_of layout region → get_or zeros (place_in layout region index) 0 ≡ 0
  zero region index within =
      ap (λ xs. get_or xs (place_in layout region index) 0) all_zero
      ∙ get_or-replicate (word_count layout) (place_in layout region index) 0 0 (place_in-below layout region index within)

  -- a region that was filled in none of the three ways
  left_zero : (region : Region) (index : ℕ) → index < size_of layout region → (tag region == tag Base) ≡ false → (tag region == tag Active) ≡ false →
      (tag region == tag Free) ≡ false → get_or words (place_in layout region index) 0 ≡ 0
  left_zero region index within no_base no_active no_free =
      second.others region index within no_free ∙ first.others region index within no_active
      ∙ base.others region index within no_base ∙ zero region index within

  holds : (region : Region) (index : ℕ) → index < size_of layout region → get_or words (place_in layout region index) 0 ≡ empty_heap region index
  holds Period index within = left_zero Period index within refl refl refl
  holds Phase index within = left_zero Phase index within refl refl refl
  holds Base index within = second.others Base index within refl ∙ first.others Base index within refl ∙ base.filled index within
  holds Active index within = second.others Active index within refl ∙ first.filled index within
  holds Call index within = left_zero Call index within refl refl refl
  holds Stopped index within = left_zero Stopped index within refl refl refl
  holds Registers index within = left_zero Registers index within refl refl refl
  holds Strong index within = left_zero Strong index within refl refl refl
  holds Weak index within = left_zero Weak index within refl refl refl
  holds Colour index within = left_zero Colour index within refl refl refl
  holds Structure index within = left_zero Structure index within refl refl refl
  holds Array index within = left_zero Array index within refl refl refl
  holds Claim index within = left_zero Claim index within refl refl refl
  holds Group index within = left_zero Group index within refl refl refl
  holds Slots index within = left_zero Slots index within refl refl refl
  holds Elements index within = left_zero Elements index within refl refl refl
  holds Free index within = second.filled index within
  holds Dead index within = left_zero Dead index within refl refl refl
  holds GreyShared index within = left_zero GreyShared index within refl refl refl
  holds GreyMutator index within = left_zero GreyMutator index within refl refl refl
  holds GreyRace index within = left_zero GreyRace index within refl refl refl
  holds Swept index within = left_zero Swept index within refl refl refl

  pub Reads-empty : Reads layout words empty_heap
  Reads-empty = record {
    all_words = second.len ∙ first.len ∙ base.len ∙ ap length all_zero ∙ length-replicate (word_count layout) 0;
    each = holds;
  }
