-- What the places of a table mean, and how many have a pair.
use Rattle.std.proofs.Common.{ℕ, zero, suc, ◌≡◌, ◌≢◌, ◌<◌, ◌≤◌, refl, sym, ◌∙◌, ap, arith, Bool, true, false, List, [], ◌∷◌, length, get_or, Option, None, Some, inl, inr}
use Rattle.std.proofs.lemmas.Bool.{true≢false, eq-eqb, ne_eqb, eqb-true, cases_eq, not-false}
use Rattle.std.proofs.lemmas.Bool.Decides.{eqb_tells}
use Rattle.std.proofs.lemmas.List.{get_or-set_same, get_or-set_other}
use Rattle.std.proofs.lemmas.List.Elements.{All-tail, All-weaker}
use Rattle.std.proofs.lemmas.List.Quantifiers.{position-Some}
use Rattle.std.proofs.lemmas.List.Recursion.{found_at}
use Rattle.std.specs.Prelude.{◌==◌, if◌then◌else◌, slice_set, is_some, not, cond, position, All, IfNone, IfSome}
use Rattle.tide_model.specs.declared.val.Val.{Val}
use Rattle.tide_model.specs.Numbers.{put_at, count_where}
use Rattle.tide_model.proofs.PositionLaws.{All-position}
use Rattle.tide_model.proofs.NumberLaws.{count_where-same}
use Rattle.tide_plain.specs.declared.parts.stored_cell.Pair.{Pair}
use Rattle.tide_plain.specs.parts.Pairs.{is_of, IsSeat}
use Rattle.tide_plain.specs.parts.Pairs.{pairs_of, IsDistinctPairs}

-- no place has a pair of the key
abbrev pub LacksKey : List (Option Pair) → ℕ → Type 0
LacksKey places key = (other : ℕ) (pair : Pair) → get_or places other None ≡ Some pair → pair.key ≢ key

-- where no place has the key nothing is under it
pub pairs_of-lacks : (places : List (Option Pair)) (key : ℕ) → LacksKey places key → pairs_of places key ≡ None
pairs_of-lacks [] key lacks = refl
pairs_of-lacks (None ∷ places) key lacks = pairs_of-lacks places key (λ other pair at. lacks (suc other) pair at)
pairs_of-lacks (Some pair ∷ places) key lacks =
    ap (λ (b : Bool). if b then Some pair.value else pairs_of places key) (ne_eqb pair.key key (lacks 0 pair refl))
    ∙ pairs_of-lacks places key (λ other other_pair at. lacks (suc other) other_pair at)

-- what a place has is under its key
pub pairs_of-there : (places : List (Option Pair)) (place : ℕ) (pair : Pair) → get_or places place None ≡ Some pair → is_some (pairs_of places pair.key) ≡ true
pairs_of-there [] place pair at = absurd (cc)
pairs_of-there (None ∷ places) zero pair at = absurd (cc)
pairs_of-there (None ∷ places) (suc place) pair at = pairs_of-there places place pair at
pairs_of-there (Some first ∷ places) zero pair at =
    let same : first ≡ pair = cc in
    ap (λ (b : Bool). is_some (if b then Some first.value else pairs_of places pair.key)) (eq-eqb first.key pair.key (ap (λ (p : Pair). p.key) same))
pairs_of-there (Some first ∷ places) (suc place) pair at = step (first.key == pair.key) (pairs_of-there places place pair at)
  where
    step : (b : Bool) → is_some (pairs_of places pair.key) ≡ true → is_some (if b then Some first.value else pairs_of places pair.key) ≡ true
    step true later = refl
    step false later = later

-- the place for a key among the later places
IsSeat-rest : (x : Option Pair) (places : List (Option Pair)) (key place : ℕ) → IsSeat (x ∷ places) key (suc place) → IsSeat places key place
IsSeat-rest x places key place seat = record {
  within = let within = seat.within in omega (arith, within);
  own = λ pair at. seat.own pair at;
  alone = λ other pair differs at. seat.alone (suc other) pair (λ e. differs (omega (arith, e))) at;
}

-- the pairs where the place for a key has something else, where it is so at the first place
pairs_of-change : (key : ℕ) (new : Option Pair) (held : Option Val) →
    ((x : Option Pair) (places : List (Option Pair)) → ((pair : Pair) → x ≡ Some pair → pair.key ≡ key) → LacksKey places key →
    (k : ℕ) → pairs_of (new ∷ places) k ≡ put_at (pairs_of (x ∷ places)) key held k) →
    (places : List (Option Pair)) (place : ℕ) → IsSeat places key place → (k : ℕ) → pairs_of (slice_set places place new) k ≡ put_at (pairs_of places) key held k
pairs_of-change key new held first [] place seat k = absurd (let within = seat.within in omega (arith, within))
pairs_of-change key new held first (x ∷ places) zero seat k =
    first x places seat.own (λ other pair at. seat.alone (suc other) pair (λ e. absurd (omega (arith, e))) at) k
pairs_of-change key new held first (None ∷ places) (suc place) seat k = pairs_of-change key new held first places place (IsSeat-rest None places key place seat) k
pairs_of-change key new held first (Some pair ∷ places) (suc place) seat k =
    ap (λ (o : Option Val). if pair.key == k then Some pair.value else o) (pairs_of-change key new held first places place (IsSeat-rest (Some pair) places key place seat) k)
    ∙ turned (seat.alone 0 pair (λ e. absurd (omega (arith, e))) refl)
  where
    turned : pair.key ≢ key →
        (if pair.key == k then Some pair.value else (if k == key then held else pairs_of places k)) ≡ (if k == key then held else (if pair.key == k then Some pair.value else pairs_of places k))
    turned differs = elim (eqb_tells k key) [
      | inl same ↦
          ap (λ (b : Bool). if b then Some pair.value else (if k == key then held else pairs_of places k)) (ne_eqb pair.key k (λ e. differs (e ∙ same.1)))
          ∙ ap (λ (b : Bool). if b then held else pairs_of places k) same.0
          ∙ sym (ap (λ (b : Bool). if b then held else (if pair.key == k then Some pair.value else pairs_of places k)) same.0)
      | inr other ↦
          ap (λ (b : Bool). if pair.key == k then Some pair.value else (if b then held else pairs_of places k)) other.0
          ∙ sym (ap (λ (b : Bool). if b then held else (if pair.key == k then Some pair.value else pairs_of places k)) other.0)
    ]

-- a place that has no other key is passed
passed : (x : Option Pair) (places : List (Option Pair)) (key k : ℕ) → ((pair : Pair) → x ≡ Some pair → pair.key ≡ key) → (k ≡ key → ⊥) → pairs_of (x ∷ places) k ≡ pairs_of places k
passed None places key k own differs = refl
passed (Some pair) places key k own differs = ap (λ (b : Bool). if b then Some pair.value else pairs_of places k) (ne_eqb pair.key k (λ e. differs (sym e ∙ own pair refl)))

-- the place for a key has a pair of it
pub pairs_of-put : (places : List (Option Pair)) (place key : ℕ) (value : Val) → IsSeat places key place →
    (k : ℕ) → pairs_of (slice_set places place (Some (record { key = key; value = value }))) k ≡ put_at (pairs_of places) key (Some value) k
pairs_of-put places place key value seat = pairs_of-change key (Some (record { key = key; value = value })) (Some value) first places place seat
  where
    first : (x : Option Pair) (rest : List (Option Pair)) → ((pair : Pair) → x ≡ Some pair → pair.key ≡ key) → LacksKey rest key →
        (k : ℕ) → pairs_of (Some (record { key = key; value = value }) ∷ rest) k ≡ put_at (pairs_of (x ∷ rest)) key (Some value) k
    first x rest own lacks k = elim (eqb_tells k key) [
      | inl same ↦
          ap (λ (b : Bool). if b then Some value else pairs_of rest k) (eq-eqb key k (sym same.1))
          ∙ sym (ap (λ (b : Bool). if b then Some value else pairs_of (x ∷ rest) k) same.0)
      | inr other ↦
          ap (λ (b : Bool). if b then Some value else pairs_of rest k) (ne_eqb key k (λ e. other.1 (sym e)))
          ∙ sym (passed x rest key k own other.1)
          ∙ sym (ap (λ (b : Bool). if b then Some value else pairs_of (x ∷ rest) k) other.0)
    ]

-- the place for a key has no pair
pub pairs_of-removed : (places : List (Option Pair)) (place key : ℕ) → IsSeat places key place → (k : ℕ) → pairs_of (slice_set places place None) k ≡ put_at (pairs_of places) key None k
pairs_of-removed places place key seat = pairs_of-change key None None first places place seat
  where
    first : (x : Option Pair) (rest : List (Option Pair)) → ((pair : Pair) → x ≡ Some pair → pair.key ≡ key) → LacksKey rest key →
        (k : ℕ) → pairs_of rest k ≡ put_at (pairs_of (x ∷ rest)) key None k
    first x rest own lacks k = elim (eqb_tells k key) [
      | inl same ↦
          ap (pairs_of rest) same.1 ∙ pairs_of-lacks rest key lacks
          ∙ sym (ap (λ (b : Bool). if b then None else pairs_of (x ∷ rest) k) same.0)
      | inr other ↦
          sym (passed x rest key k own other.1)
          ∙ sym (ap (λ (b : Bool). if b then None else pairs_of (x ∷ rest) k) other.0)
    ]

-- no key stands twice where the place for it has another pair of it, or none
pub IsDistinctPairs-set : (places : List (Option Pair)) (place key : ℕ) (new : Option Pair) → IsDistinctPairs places → IsSeat places key place →
    ((pair : Pair) → new ≡ Some pair → pair.key ≡ key) → IsDistinctPairs (slice_set places place new)
IsDistinctPairs-set places place key new distinct seat is_key one other pair again at at_other same =
    elim (cases_eq one place) [
      | inl here ↦ elim (cases_eq other place) [
        | inl there ↦ here ∙ sym there
        | inr apart ↦ absurd (seat.alone other again apart (elsewhere other again apart at_other) (sym same ∙ own one pair here at))
      ]
      | inr away ↦ elim (cases_eq other place) [
        | inl there ↦ absurd (seat.alone one pair away (elsewhere one pair away at) (same ∙ own other again there at_other))
        | inr apart ↦ distinct one other pair again (elsewhere one pair away at) (elsewhere other again apart at_other) same
      ]
    ]
  where
    elsewhere : (n : ℕ) (p : Pair) → (n ≡ place → ⊥) → get_or (slice_set places place new) n None ≡ Some p → get_or places n None ≡ Some p
    elsewhere n p differs is = sym (get_or-set_other places place n new None differs) ∙ is

    own : (n : ℕ) (p : Pair) → n ≡ place → get_or (slice_set places place new) n None ≡ Some p → p.key ≡ key
    own n p here is = is_key p (sym (get_or-set_same places place new None seat.within) ∙ ap (λ (m : ℕ). get_or (slice_set places place new) m None) (sym here) ∙ is)

-- how many places have a pair
abbrev pub occupied : List (Option Pair) → ℕ
occupied [] = 0
occupied (None ∷ places) = occupied places
occupied (Some pair ∷ places) = suc (occupied places)

-- a test that passes one number more
count_where-more : (one other : ℕ → Bool) (bound at : ℕ) → at < bound → one at ≡ true → other at ≡ false → ((n : ℕ) → n ≢ at → one n ≡ other n) →
    count_where one bound ≡ suc (count_where other bound)
count_where-more one other zero at below passes fails same = absurd (omega arith)
count_where-more one other (suc bound) at below passes fails same = elim (cases_eq at bound) [
  | inl last ↦
      let front = count_where-same one other bound (λ n under. same n (λ e. absurd (omega (arith, e, last, under)))) in
      let a = ap {B = ℕ} (λ (b : Bool). if b then 1 else 0) (ap one (sym last) ∙ passes) in
      let b = ap {B = ℕ} (λ (b : Bool). if b then 1 else 0) (ap other (sym last) ∙ fails) in
      omega (arith, front, a, b)
  | inr early ↦
      let front = count_where-more one other bound at (omega (arith, below, early)) passes fails same in
      let a = ap {B = ℕ} (λ (b : Bool). if b then 1 else 0) (same bound (λ e. early (sym e))) in
      omega (arith, front, a)
]

-- a table has as many pairs as it has places with one
pub pair_count-occupied : (places : List (Option Pair)) (bound : ℕ) → IsDistinctPairs places → ((place : ℕ) (pair : Pair) → get_or places place None ≡ Some pair → pair.key < bound) →
    count_where (λ k. is_some (pairs_of places k)) bound ≡ occupied places
pair_count-occupied [] bound distinct below = none bound
  where
    none : (n : ℕ) → count_where (λ k. false) n ≡ 0
    none zero = refl
    none (suc n) = let e = none n in omega (arith, e)
pair_count-occupied (None ∷ places) bound distinct below = pair_count-occupied places bound (rest distinct) (λ place pair at. below (suc place) pair at)
  where
    rest : IsDistinctPairs (None ∷ places) → IsDistinctPairs places
    rest d one other pair again at at_other same = let e = d (suc one) (suc other) pair again at at_other same in omega (arith, e)
pair_count-occupied (Some first ∷ places) bound distinct below =
    count_where-more (λ k. is_some (pairs_of (Some first ∷ places) k)) (λ k. is_some (pairs_of places k)) bound first.key (below 0 first refl)
    (ap (λ (b : Bool). is_some (if b then Some first.value else pairs_of places first.key)) (eq-eqb first.key first.key refl))
    (ap is_some (pairs_of-lacks places first.key (λ other pair at same. absurd (let e = distinct 0 (suc other) first pair refl at (sym same) in omega (arith, e)))))
    (λ n differs. ap (λ (b : Bool). is_some (if b then Some first.value else pairs_of places n)) (ne_eqb first.key n (λ e. differs (sym e))))
    ∙ ap suc (pair_count-occupied places bound (rest distinct) (λ place pair at. below (suc place) pair at))
  where
    rest : IsDistinctPairs (Some first ∷ places) → IsDistinctPairs places
    rest d one other pair again at at_other same = let e = d (suc one) (suc other) pair again at at_other same in omega (arith, e)

-- no more pairs than places
occupied-most : (places : List (Option Pair)) → occupied places ≤ length places
occupied-most [] = omega arith
occupied-most (None ∷ places) = let e = occupied-most places in omega (arith, e)
occupied-most (Some pair ∷ places) = let e = occupied-most places in omega (arith, e)

-- all places have a pair, or one hasn't
pub occupied-full : (places : List (Option Pair)) → All (λ place. is_some place ≡ true) places → occupied places ≡ length places
occupied-full [] all = refl
occupied-full (None ∷ places) all = absurd (let e = all 0 None (omega arith) in cc)
occupied-full (Some pair ∷ places) all = ap suc (occupied-full places (All-tail (λ place. is_some place ≡ true) (Some pair) places all))

pub occupied-room : (places : List (Option Pair)) (place : ℕ) → place < length places → get_or places place None ≡ None → occupied places < length places
occupied-room [] place within empty = absurd (omega arith)
occupied-room (None ∷ places) zero within empty = let e = occupied-most places in omega (arith, e)
occupied-room (None ∷ places) (suc place) within empty = let e = occupied-room places place (omega arith) empty in omega (arith, e)
occupied-room (Some pair ∷ places) zero within empty = absurd (cc)
occupied-room (Some pair ∷ places) (suc place) within empty = let e = occupied-room places place (omega arith) empty in omega (arith, e)

-- a place that has a pair is one of them
pair_within : (places : List (Option Pair)) (place : ℕ) (pair : Pair) → get_or places place None ≡ Some pair → place < length places
pair_within [] place pair at = absurd (cc)
pair_within (x ∷ places) zero pair at = omega arith
pair_within (x ∷ places) (suc place) pair at = let e = pair_within places place pair at in omega (arith, e)

-- what a search for the key finds
pub lacks-position : (places : List (Option Pair)) (key : ℕ) → position (is_of key) places ≡ None → LacksKey places key
lacks-position places key none other pair at same =
    let fails : is_of key (get_or places other None) ≡ false = All-position (is_of key) places none other None (pair_within places other pair at) in
    true≢false (sym (eq-eqb pair.key key same) ∙ sym (ap (is_of key) at) ∙ fails)

-- what a place has, if it has a pair
abbrev pub held_value : Option Pair → Option Val
held_value None = None
held_value (Some pair) = Some pair.value

pub pairs_of-position : (places : List (Option Pair)) (key place : ℕ) → position (is_of key) places ≡ Some place → pairs_of places key ≡ held_value (get_or places place None)
pairs_of-position places key place first =
    let at = position-Some (is_of key) places place None first in
    found_at (λ ps. pairs_of ps key) (is_of key) held_value None refl step places place None at.0 at.2 at.1
  where
    step : (x : Option Pair) (xs : List (Option Pair)) → pairs_of (x ∷ xs) key ≡ cond (is_of key x) (held_value x) (pairs_of xs key)
    step None xs = refl
    step (Some pair) xs = refl

-- the place that has the key is the place for it
pub IsSeat-position : (places : List (Option Pair)) (key place : ℕ) → IsDistinctPairs places → position (is_of key) places ≡ Some place → IsSeat places key place
IsSeat-position places key place distinct first = record {
  within = at.0;
  own = λ pair is. eqb-true pair.key key (sym (ap (is_of key) is) ∙ at.1);
  alone = λ other pair differs is same. step (get_or places place None) refl other pair differs is same;
}
  where
    at : (place < length places) × (is_of key (get_or places place None) ≡ true) × ((k : ℕ) → k < place → is_of key (get_or places k None) ≡ false)
    at = position-Some (is_of key) places place None first

    step : (x : Option Pair) → get_or places place None ≡ x → (other : ℕ) (pair : Pair) → other ≢ place → get_or places other None ≡ Some pair → pair.key ≡ key → ⊥
    step None here other pair differs is same = let e : false ≡ true = sym (ap (is_of key) here) ∙ at.1 in cc
    step (Some own) here other pair differs is same =
        differs (distinct other place pair own is here (same ∙ sym (eqb-true own.key key (sym (ap (is_of key) here) ∙ at.1))))

-- and where none has it the first empty place is
pub IsSeat-empty : (places : List (Option Pair)) (key : ℕ) (found : Option ℕ) → position (is_of key) places ≡ None → found ≡ position (λ place. not (is_some place)) places → IfSome found (IsSeat places key)
IsSeat-empty places key None lacks first = tt
IsSeat-empty places key (Some place) lacks first = record {
  within = at.0;
  own = λ pair is. absurd (let e : false ≡ true = sym (ap (λ (x : Option Pair). not (is_some x)) is) ∙ at.1 in cc);
  alone = λ other pair differs is. lacks-position places key lacks other pair is;
}
  where
    at : (place < length places) × (not (is_some (get_or places place None)) ≡ true) × ((k : ℕ) → k < place → not (is_some (get_or places k None)) ≡ false)
    at = position-Some (λ x. not (is_some x)) places place None (sym first)

-- where neither is found each place has a pair
pub taken-position : (places : List (Option Pair)) (found : Option ℕ) → found ≡ position (λ place. not (is_some place)) places → IfNone found (All (λ place. is_some place ≡ true) places)
taken-position places None first =
    All-weaker (λ x. not (is_some x) ≡ false) (λ x. is_some x ≡ true) (λ x e. not-false (is_some x) e) places (All-position (λ x. not (is_some x)) places (sym first))
taken-position places (Some place) first = tt

-- where a place has the key something is under it
pub pairs_of-found : (places : List (Option Pair)) (key place : ℕ) → position (is_of key) places ≡ Some place → (value : Val) × (Some value ≡ pairs_of places key)
pairs_of-found places key place first = step (get_or places place None) refl
  where
    step : (x : Option Pair) → get_or places place None ≡ x → (value : Val) × (Some value ≡ pairs_of places key)
    step None is = absurd (let e : false ≡ true = sym (ap (is_of key) is) ∙ (position-Some (is_of key) places place None first).1 in cc)
    step (Some pair) is = (pair.value, sym (pairs_of-position places key place first ∙ ap held_value is))
