-- Where each class begins, which a layout keeps, and the words before an id by it.
use Rattle.std.proofs.Common.{ℕ, ◌≡◌, ◌+◌, ◌-◌, ◌*◌, ◌<◌, ◌≤◌, min, sym, ◌∙◌, ap, arith, List, length, sum, map, inl, inr}
use Rattle.std.specs.Prelude.{slice_index}
use Rattle.std.specs.List.{range_with_len}
use Rattle.std.proofs.lemmas.Bool.{cases_lt}
use Rattle.std.proofs.lemmas.List.{ext_get_or, take_all}
use Rattle.std.proofs.lemmas.List.FromFn.{get_or-map-range_with_len, length-map-range_with_len}
use Rattle.std.proofs.lemmas.List.Sums.{sum_by_more}
use Rattle.tide_layout.specs.declared.firsts.Firsts.{Firsts}
use Rattle.tide_layout.specs.Firsts.{first_id, firsts_of}
use Rattle.tide_layout.specs.Slots.{class_of_id, width_of_class, words_among}
use Rattle.tide_layout.proofs.ClassWidths.{class_of_id-is, words_among-class}

-- what is so for each class is so for all
pub firsts_of-is : (blocks : List ℕ) (first : ℕ) (ids words : List ℕ) → length ids ≡ 5 → length words ≡ 5 →
    ((class : ℕ) → class < 5 → slice_index ids class ≡ first_id blocks class) →
    ((class : ℕ) → class < 5 → slice_index words class ≡ words_among blocks first (first_id blocks class)) →
    record { ids = ids; words = words } ≡ firsts_of blocks first
unfolding firsts_of
firsts_of-is blocks first ids words five_ids five_words each_id each_word =
    let of_both : List ℕ → List ℕ → Firsts = λ i w. record { ids = i; words = w } in
    let before : ℕ → ℕ = λ class. words_among blocks first (first_id blocks class) in
    let same_ids : ids ≡ map (first_id blocks) (range_with_len 0 5) =
    ext_get_or 0 ids (map (first_id blocks) (range_with_len 0 5)) (five_ids ∙ sym (length-map-range_with_len (first_id blocks) 0 5))
    (λ k h. each_id k (omega (arith, five_ids, h)) ∙ sym (get_or-map-range_with_len (first_id blocks) 0 5 k k 0 (omega (arith, five_ids, h)) (omega arith))) in
    let same_words : words ≡ map before (range_with_len 0 5) =
    ext_get_or 0 words (map before (range_with_len 0 5)) (five_words ∙ sym (length-map-range_with_len before 0 5))
    (λ k h. each_word k (omega (arith, five_words, h)) ∙ sym (get_or-map-range_with_len before 0 5 k k 0 (omega (arith, five_words, h)) (omega arith))) in
    ap (λ (i : List ℕ). of_both i words) same_ids ∙ ap (of_both (map (first_id blocks) (range_with_len 0 5))) same_words

-- the first id of a class that is kept
pub kept-id : (blocks : List ℕ) (first : ℕ) (firsts : Firsts) (class : ℕ) → firsts ≡ firsts_of blocks first → class < 5 → slice_index firsts.ids class ≡ first_id blocks class
unfolding firsts_of
kept-id blocks first firsts class is few =
    ap (λ (f : Firsts). slice_index f.ids class) is ∙ get_or-map-range_with_len (first_id blocks) 0 5 class class 0 few (omega arith)

-- and the words before it
pub kept-words : (blocks : List ℕ) (first : ℕ) (firsts : Firsts) (class : ℕ) → firsts ≡ firsts_of blocks first → class < 5 →
    slice_index firsts.words class ≡ words_among blocks first (first_id blocks class)
unfolding firsts_of
kept-words blocks first firsts class is few =
    ap (λ (f : Firsts). slice_index f.words class) is
    ∙ get_or-map-range_with_len (λ (k : ℕ). words_among blocks first (first_id blocks k)) 0 5 class class 0 few (omega arith)

-- the words before an id of a class
words_among-in : (blocks : List ℕ) (first class id : ℕ) → class < 5 → length blocks ≡ 5 → first_id blocks class ≤ id → id < first_id blocks (class + 1) →
    words_among blocks first id ≡ words_among blocks first (first_id blocks class) + (id - first_id blocks class) * width_of_class (first + class)
words_among-in blocks first class id few five from below =
    let grows = words_among-class blocks first class id few (omega (arith, few, five)) in
    let next = sum_by_more (λ (x : ℕ). x) blocks class 0 (omega (arith, few, five)) in
    let all : min id (first_id blocks (class + 1)) ≡ id = omega (arith, below) in
    let front : min id (first_id blocks class) ≡ first_id blocks class = omega (arith, from) in
    let part : min (id - first_id blocks class) (64 * slice_index blocks class) ≡ id - first_id blocks class = omega (arith, next, below) in
    sym (ap (words_among blocks first) all) ∙ grows ∙ ap (λ (n : ℕ). words_among blocks first n + min (id - first_id blocks class) (64 * slice_index blocks class) * width_of_class (first + class)) front
    ∙ ap (λ (n : ℕ). words_among blocks first (first_id blocks class) + n * width_of_class (first + class)) part

-- the last class that begins at an id or before it ends behind it
module _ (blocks : List ℕ) (first : ℕ) (firsts : Firsts) (class id : ℕ) (is : firsts ≡ firsts_of blocks first)
    (five : length blocks ≡ 5) (few : class < 5) (within : id < 64 * sum blocks) (from : slice_index firsts.ids class ≤ id)
    (last : (later : ℕ) → class < later → later < 5 → id < slice_index firsts.ids later) where
  own : slice_index firsts.ids class ≡ first_id blocks class
  own = kept-id blocks first firsts class is few

  below : id < first_id blocks (class + 1)
  below = elim (cases_lt (class + 1) 5) [
    | inl some ↦
        (let next = kept-id blocks first firsts (class + 1) is some in
        let before = last (class + 1) (omega arith) some in
        omega (arith, next, before))
    | inr none ↦
        (let whole = ap sum (take_all 5 blocks (omega (arith, five))) in
        let here = ap (first_id blocks) (let e : class + 1 ≡ 5 = omega (arith, none, few) in e) in
        omega (arith, whole, here, within))
  ]

  -- so it is the id's
  pub kept-class : class_of_id blocks id ≡ class
  kept-class = class_of_id-is blocks class id few (omega (arith, own, from)) below

  -- and the words before the id are told by it
  pub words_before-is : words_among blocks first id
      ≡ slice_index firsts.words class + (id - slice_index firsts.ids class) * width_of_class (first + class)
  words_before-is = words_among-in blocks first class id few five (omega (arith, own, from)) below
      ∙ ap (λ (n : ℕ). n + (id - first_id blocks class) * width_of_class (first + class)) (sym (kept-words blocks first firsts class is few))
      ∙ ap (λ (n : ℕ). slice_index firsts.words class + (id - n) * width_of_class (first + class)) (sym own)
