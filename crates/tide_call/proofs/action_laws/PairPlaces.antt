-- What the words of a table say of its pairs.
use Rattle.std.proofs.Common.{ℕ, ◌≡◌, ◌+◌, ◌<◌, refl, sym, ◌∙◌, ap, arith, Bool, true, false, List, Option, None, Some, inl, inr}
use Rattle.std.proofs.lemmas.Bool.{eq-eqb, eqb-true, ne_eqb}
use Rattle.std.proofs.lemmas.Bool.Decides.{nat_tests}
use Rattle.std.specs.Prelude.{◌==◌, ◌&&◌, is_some, nat_le, not, slice_index}
use Rattle.tide_words.specs.tide_layout.Region.{place_in, place_of_slot}
use Rattle.tide_words.specs.tide_layout.Slots.{HasSlot, index_of_slot, width_of_class}
use Rattle.tide_model.specs.declared.val.Val.{Val}
use Rattle.tide_model.specs.Layout.{Layout, cell_count, class_of}
use Rattle.tide_model.specs.Refused.{has_pair, is_table, pair_count, pairs_most}
use Rattle.tide_model.specs.State.{State}
use Rattle.tide_words.specs.heap.Heap.{Heap}
use Rattle.tide_words.specs.heap.Reading.{IsPairOf, IsTableOf, slot_word}
use Rattle.tide_words.proofs.form_laws.FormLaws.{pair_word-pos, same_from_pair_word}
use Rattle.tide_words.proofs.heap_laws.ReadingLaws.{IsPairOf-same}
use Rattle.tide_model.specs.Numbers.{is_among}
use Rattle.tide_call.specs.Callers.{Planner, CallsIn, OwnHeaps}
use Rattle.tide_call.specs.CallWords.{HasPairAt, IsFirstEmpty, IsPlaceFor}
use Rattle.tide_call.proofs.action_laws.OwnLaws.{claimed_reads, is_held}
use Rattle.tide_call.specs.Pairs.{HasNoZero, IsFirstZero, IsPlaceAmong, LacksKey, PairStandsAt}
use Rattle.tide_call.proofs.action_laws.PairCounts.{AreMatched, count_where-all, count_where-fewer, count_where-matched}

module _ (owns : OwnHeaps) (caller : Planner) (heap : Heap) (state : State) (calls : CallsIn owns caller heap state)
    (table : ℕ) (words : List ℕ) (within : table < cell_count caller.layout)
    (is_one : is_table caller.layout table ≡ true) (claimed : is_among caller.claims table ≡ true)
    (same : (place : ℕ) → place < 8 → slice_index words place ≡ slot_word caller.layout heap table place) where
  abbrev layout : Layout
  layout = caller.layout

  of : IsTableOf layout heap table (state.cells table).pairs
  of = (claimed_reads owns caller heap state calls table claimed within).table is_one

  keys : (key : ℕ) (value : Val) → (state.cells table).pairs key ≡ Some value → key < cell_count layout
  keys key value is = calls.is_caller.keys table key value (is_held owns caller heap state calls table claimed) is

  pub pair_slot : (place : ℕ) → place < 8 → HasSlot layout table place
  pair_slot place below = record {
    cell_within = within;
    slot_within = (let wide = ap width_of_class (eqb-true (class_of layout table) 4 is_one) in omega (arith, wide, below));
  }

  below_eight : (place : ℕ) → HasSlot layout table place → place < 8
  below_eight place has =
      let wide = ap width_of_class (eqb-true (class_of layout table) 4 is_one) in
      let inside = has.slot_within in
      omega (arith, wide, inside)

  -- a pair among the words is one of the table
  pub stands-here : (key : ℕ) (value : Val) (place : ℕ) → PairStandsAt words key value place →
      IsPairOf key value (slot_word layout heap table place)
  stands-here key value place stands =
      IsPairOf-same key value (slice_index words place) (slot_word layout heap table place) (sym (same place stands.within)) stands.is_pair

  pub stands-said : (key : ℕ) (value : Val) (place : ℕ) → PairStandsAt words key value place →
      (state.cells table).pairs key ≡ Some value
  stands-said key value place stands = of.said place key value (pair_slot place stands.within) (stands-here key value place stands)

  -- a key of which no word has a pair has none
  pub lacks-none : (key : ℕ) → LacksKey words key → (state.cells table).pairs key ≡ None
  lacks-none key lacks = by_pair ((state.cells table).pairs key) refl
    where
      by_pair : (held : Option Val) → (state.cells table).pairs key ≡ held → held ≡ None
      by_pair None is = refl
      by_pair (Some value) is = absurd (
          let (place, has, stands) = of.stands key value is in
          let below = below_eight place has in
          lacks value place (record {
            within = below;
            is_pair = IsPairOf-same key value (slot_word layout heap table place) (slice_index words place) (same place below) stands;
          }))

  -- the first word that is 0 is of the first place without a pair
  pub first_zero-empty : (place : ℕ) → IsFirstZero words place → IsFirstEmpty layout heap table place
  first_zero-empty place first = (
    sym (same place first.within) ∙ first.zero_there,
    (λ earlier below is. first.earlier earlier below
        (same earlier (let inside = first.within in omega (arith, below, inside)) ∙ is)),
  )

  abbrev is_taken : ℕ → Bool
  is_taken place = not (slot_word layout heap table place == 0)

  -- the pairs are as many as the places that have one
  matched : AreMatched (has_pair state table) (cell_count layout) is_taken 8 (HasPairAt layout heap table)
  matched = record {
    of_place = λ place below taken. elim (of.forms place (pair_slot place below)) [
      | inl none ↦ absurd (let empty = ap not (eq-eqb (slot_word layout heap table place) 0 none) in let bad = sym empty ∙ taken in cc)
      | inr (key, value, few, fits, is) ↦
          let pair : IsPairOf key value (slot_word layout heap table place) = record { few = few; number = fits; is_word = is } in
          (key, (value, pair), keys key value (of.said place key value (pair_slot place below) pair))
    ];
    passes = λ place key below (value, pair). (
      ap is_some (of.said place key value (pair_slot place below) pair),
      (let positive = pair_word-pos key value in let is = pair.is_word in
          ap not (ne_eqb (slot_word layout heap table place) 0 (λ none. omega (arith, positive, is, none)))),
    );
    of_number = λ key has. by_pair key ((state.cells table).pairs key) refl has;
    one_place = λ one other key in_one in_other (value, pair) (another, again).
        of.once one other key value another (pair_slot one in_one) (pair_slot other in_other) pair again;
    one_number = λ place key other below (value, pair) (another, again).
        (same_from_pair_word key other value another pair.number again.number (pair.is_word ∙ sym again.is_word)).0;
  }
    where
      by_pair : (key : ℕ) (held : Option Val) → (state.cells table).pairs key ≡ held → is_some held ≡ true →
          (place : ℕ) × (place < 8) × HasPairAt layout heap table place key
      by_pair key None is has = absurd (cc)
      by_pair key (Some value) is has = (let (place, slot, stands) = of.stands key value is in
          (place, below_eight place slot, (value, stands)))

  pub pair_count-full : HasNoZero words → pair_count layout state table ≡ 8
  pair_count-full full =
      count_where-matched (has_pair state table) (cell_count layout) is_taken 8 (HasPairAt layout heap table) matched
      ∙ count_where-all is_taken 8 (λ place below. ap not (ne_eqb (slot_word layout heap table place) 0
      (λ none. full place below (same place below ∙ none))))

  pub pair_count-room : (place : ℕ) → IsFirstZero words place → pair_count layout state table < 8
  pair_count-room place first =
      let counts = count_where-matched (has_pair state table) (cell_count layout) is_taken 8 (HasPairAt layout heap table) matched in
      let fewer = count_where-fewer is_taken 8 place first.within
      (ap not (eq-eqb (slot_word layout heap table place) 0 (sym (same place first.within) ∙ first.zero_there))) in
      omega (arith, counts, fewer)

  -- a pair is refused where no place is for it
  pub place-refused : (key : ℕ) → LacksKey words key → HasNoZero words →
      (not (has_pair state table key) && nat_le pairs_most (pair_count layout state table)) ≡ true
  place-refused key lacks full = λ i. not (is_some (lacks-none key lacks i)) && nat_le pairs_most (pair_count-full full i)

  -- and else none is
  pub place-granted : (key place : ℕ) → IsPlaceAmong words key place →
      (not (has_pair state table key) && nat_le pairs_most (pair_count layout state table)) ≡ false
  place-granted key place (inl (value, stands)) =
      ap (λ (b : Bool). not b && nat_le pairs_most (pair_count layout state table)) (ap is_some (stands-said key value place stands))
  place-granted key place (inr (lacks, first)) =
      ap (λ (b : Bool). not (has_pair state table key) && b) (few (pair_count layout state table) (pair_count-room place first))
      ∙ never (not (has_pair state table key))
    where
      few : (n : ℕ) → n < 8 → nat_le 8 n ≡ false
      few n below = grind (arith, nat_tests)

      never : (b : Bool) → (b && false) ≡ false
      never true = refl
      never false = refl

  -- it is the place for the pair
  pub place-for : (key place : ℕ) → IsPlaceAmong words key place → IsPlaceFor layout heap state table place key
  place-for key place (inl (value, stands)) = inr (value, stands-here key value place stands)
  place-for key place (inr (lacks, first)) = inl (lacks-none key lacks, first_zero-empty place first)

  pub place-slot : (key place : ℕ) → IsPlaceAmong words key place → HasSlot layout table place
  place-slot key place (inl (value, stands)) = pair_slot place stands.within
  place-slot key place (inr (lacks, first)) = pair_slot place first.within

-- the words of a cell's slots lie side by side
pub slot_past : (layout : Layout) (cell past : ℕ) → place_of_slot layout cell 0 + past ≡ place_of_slot layout cell past
unfolding place_in index_of_slot
slot_past layout cell past = omega arith
