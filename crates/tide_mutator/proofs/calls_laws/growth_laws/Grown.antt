-- The words of a growth: an array's free bit is cleared, and what is owed then is stored.
use Rattle.std.proofs.Common.{ℕ, suc, ◌≡◌, ◌+◌, ◌%◌, ◌<◌, refl, sym, ◌∙◌, ap, subst, arith, false, inl, inr, Option, Some}
use Rattle.std.proofs.lemmas.Bool.{ne_eqb}
use Rattle.std.specs.Int.{bit_at}
use Rattle.std.specs.Prelude.{Contains, bit_and}
use Rattle.tide_heap.proofs.tide_block.BitLaws.{without_bit-is}
use Rattle.tide_heap.specs.tide_call.Grown.{IsGrown, is_grown_region}
use Rattle.tide_heap.specs.tide_call.ShapeWord.{whole_word}
use Rattle.tide_heap.specs.tide_call.Taken.{IsTakenBit}
use Rattle.tide_heap.proofs.tide_layout.Places.{tag-injective}
use Rattle.tide_heap.proofs.tide_layout.SlotPlaces.{index_of_element-alone}
use Rattle.tide_heap.specs.tide_layout.Region.{tag}
use Rattle.tide_heap.specs.tide_layout.Slots.{HasElement, index_of_element}
use Rattle.tide_heap.specs.tide_layout.declared.region.Region.{Region}
use Rattle.tide_heap.specs.tide_layout.declared.region.Region.TheVariants as region
use Rattle.tide_heap.proofs.tide_core.machine_laws.steps.Debts.{debt_cases, debts, filled, filled_at, filled_else, paid, paid_else}
use Rattle.tide_heap.specs.tide_core.machine.Owed.{owed_word}
use Rattle.tide_heap.specs.tide_core.machine.Words.{all_but}
use Rattle.tide_heap.specs.tide_core.declared.machine.view.Owed.{Owed}
use Rattle.tide_model.specs.Layout.{Layout, block_of_array}
use Rattle.tide_model.specs.declared.val.Val.{Val}
use Rattle.tide_heap.proofs.tide_words.heap_laws.HeapLaws.{write-other_index, write-other_region, write-same}
use Rattle.tide_heap.specs.tide_words.forms.Reference.{array_word}
use Rattle.tide_heap.specs.tide_words.forms.ValueWord.{val_word}
use Rattle.tide_heap.specs.tide_words.heap.Heap.{Heap, write}

module _ (layout : Layout) (heap : Heap) (properties : ℕ → Val) (cell taken block k count shape : ℕ)
    (in_block : block_of_array layout taken ≡ block) (its_bit : taken % 64 ≡ k) (few : k < 64)
    (has : (place : ℕ) → place < suc count → HasElement layout taken place) where
  abbrev next : ℕ
  next = whole_word shape (count + 1)

  abbrev word : ℕ
  word = bit_and (heap region.Free block) (all_but k)

  abbrev base : Heap
  base = write heap region.Free block word

  -- the words with all of them stored
  abbrev pub grown_words : Heap
  grown_words = paid layout properties taken cell next (suc count) base has

  no_debt : (at : Region) (index x : ℕ) → is_grown_region at ≡ false →
      Contains (debts layout properties taken cell next (suc count) base has) (owed_word at index x) → ⊥
  no_debt at index x isnt debt = elim (debt_cases layout properties taken cell next (suc count) base has at index x debt) [
    | inl same ↦ (let also = ap (λ (o : Owed). is_grown_region o.region) same in absurd (cc))
    | inr more ↦ elim more [
      | inl same ↦ (let also = ap (λ (o : Owed). is_grown_region o.region) same in absurd (cc))
      | inr element ↦ (let also = ap (λ (o : Owed). is_grown_region o.region) element.2 in absurd (cc))
    ]
  ]

  free_word : (b : ℕ) → grown_words region.Free b ≡ base region.Free b
  free_word b = filled_else layout properties taken (suc count) base region.Free b (λ place less. refl)

  pub are_grown : (from : Option ℕ) (value : Val) → properties count ≡ value →
      ((source place : ℕ) → from ≡ Some source → place < count →
      val_word (properties place) ≡ heap region.Elements (index_of_element layout source place)) →
      IsGrown layout heap grown_words cell taken from count shape value
  are_grown from value last copied = record {
    others = λ at isnt index below. paid_else layout properties taken cell next (suc count) base has at index
        (λ x debt. no_debt at index x isnt debt)
        ∙ write-other_region heap region.Free at block index word (ne_eqb (tag at) (tag region.Free)
        (λ same. let r = tag-injective at region.Free same in let also = ap is_grown_region r in absurd (cc)));
    free_bit = subst (λ (b : ℕ). IsTakenBit layout heap grown_words b (taken % 64)) (sym in_block)
        (subst (IsTakenBit layout heap grown_words block) (sym its_bit) (record {
          other_words = λ other below apart. free_word other ∙
              write-other_index heap region.Free block other word apart;
          bits = λ other below. ap (λ (x : ℕ). bit_at x other) (free_word block ∙
              write-same heap region.Free block word)
              ∙ without_bit-is (heap region.Free block) k few other below;
        }));
    structures = λ x below apart. write-other_index (write (filled layout properties taken (suc count) base)
        region.Array cell (array_word (Some taken))) region.Structure cell x next apart
        ∙ filled_else layout properties taken (suc count) base region.Structure x (λ place less. refl);
    structure = write-same (write (filled layout properties taken (suc count) base) region.Array cell
        (array_word (Some taken))) region.Structure cell next;
    arrays = λ x below apart. write-other_index (filled layout properties taken (suc count) base) region.Array cell x
        (array_word (Some taken)) apart
        ∙ filled_else layout properties taken (suc count) base region.Array x (λ place less. refl);
    array = write-same (filled layout properties taken (suc count) base) region.Array cell (array_word (Some taken));
    elements = λ other place its apart. filled_else layout properties taken (suc count) base region.Elements
        (index_of_element layout other place) (λ p less. ne_eqb (index_of_element layout other place)
        (index_of_element layout taken p) (λ same. apart (index_of_element-alone layout taken other p place
        (has p less).element_within its.element_within same).0));
    copied = λ source place from_it its below.
        filled_at layout properties taken (suc count) base place (omega (arith, below)) has
        ∙ copied source place from_it below;
    last = filled_at layout properties taken (suc count) base count (omega arith) has ∙ ap val_word last;
  }
