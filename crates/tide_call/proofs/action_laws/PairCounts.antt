-- How many keys have a pair, by the places of the pairs.
use Rattle.std.proofs.Common.{ℕ, zero, suc, ◌≡◌, ◌≢◌, ◌<◌, ◌≤◌, refl, sym, ◌∙◌, ap, subst, arith, Bool, true, false, inl, inr}
use Rattle.std.proofs.lemmas.Bool.{cases_Bool, cases_eq, eq-eqb, ne_eqb}
use Rattle.std.specs.Prelude.{◌==◌, ◌&&◌, not, if◌then◌else◌}
use Rattle.tide_words.proofs.tide_layout.ClassWidths.{count_where-first, count_where-le}
use Rattle.tide_model.specs.Numbers.{count_where}
use Rattle.tide_model.proofs.CountLaws.{count_where-none}
use Rattle.tide_words.proofs.marking_laws.ConstraintLaws.{count_where-one_less}

-- Each taken place has a number that passes, each passing number has such a place, and no two places have the same
-- number.
pub record AreMatched (test : ℕ → Bool) (bound : ℕ) (taken : ℕ → Bool) (places : ℕ) (has : ℕ → ℕ → Type 0) : Type 0 where
  pub of_place : (place : ℕ) → place < places → taken place ≡ true → (n : ℕ) × has place n × (n < bound)
  pub passes : (place n : ℕ) → place < places → has place n → (test n ≡ true) × (taken place ≡ true)
  pub of_number : (n : ℕ) → test n ≡ true → (place : ℕ) × (place < places) × has place n
  pub one_place : (one other n : ℕ) → one < places → other < places → has one n → has other n → one ≡ other
  pub one_number : (place n m : ℕ) → place < places → has place n → has place m → n ≡ m

-- a number that passes and isn't this one
abbrev other_than : (ℕ → Bool) → ℕ → ℕ → Bool
other_than test number n = test n && not (n == number)

-- then as many numbers pass as places are taken
pub count_where-matched : (test : ℕ → Bool) (bound : ℕ) (taken : ℕ → Bool) (places : ℕ) (has : ℕ → ℕ → Type 0) →
    AreMatched test bound taken places has → count_where test bound ≡ count_where taken places
count_where-matched test bound taken zero has matched = count_where-none test bound (λ n below. fails n)
  where
    fails : (n : ℕ) → test n ≡ false
    fails n = elim (cases_Bool (test n)) [
      | inl passes ↦ absurd (let (place, below, at) = matched.of_number n passes in omega (arith, below))
      | inr isnt ↦ isnt
    ]
count_where-matched test bound taken (suc places) has matched = elim (cases_Bool (taken places)) [
  | inr empty ↦
      let rest = count_where-matched test bound taken places has (record {
        of_place = λ place below is. matched.of_place place (omega (arith, below)) is;
        passes = λ place n below at. matched.passes place n (omega (arith, below)) at;
        of_number = λ n is. (let (place, below, at) = matched.of_number n is in (
          place,
          (let apart : place ≢ places = (λ same. let bad = (matched.passes place n below at).1 in
              absurd (let full = subst (λ (p : ℕ). taken p ≡ true) same bad in cc)) in omega (arith, below, apart)),
          at,
        ));
        one_place = λ one other n in_one in_other. matched.one_place one other n (omega (arith, in_one)) (omega (arith, in_other));
        one_number = λ place n m below. matched.one_number place n m (omega (arith, below));
      }) in
      let last = ap {B = ℕ} (λ (b : Bool). if b then 1 else 0) empty in
      omega (arith, rest, last)
  | inl full ↦
      let (number, at, inside) = matched.of_place places (omega arith) full in
      let rest = count_where-matched (other_than test number) bound taken places has (record {
        of_place = λ place below is. matched.of_place place (omega (arith, below)) is;
        passes = λ place n below here. (let both = matched.passes place n (omega (arith, below)) here in (
          still number n both.0 (λ same. let one = matched.one_place place places n (omega (arith, below)) (omega arith) here
              (subst (has places) (sym same) at) in omega (arith, one, below)),
          both.1,
        ));
        of_number = λ n is. (let (place, below, here) = matched.of_number n (was number n is) in (
          place,
          (let apart : place ≢ places = (λ same. isnt number n is
              (matched.one_number places n number (omega arith) (subst (λ (p : ℕ). has p n) same here) at)) in omega (arith, below, apart)),
          here,
        ));
        one_place = λ one other n in_one in_other. matched.one_place one other n (omega (arith, in_one)) (omega (arith, in_other));
        one_number = λ place n m below. matched.one_number place n m (omega (arith, below));
      }) in
      let fewer = count_where-one_less test (other_than test number) bound number inside (matched.passes places number (omega arith) at).0
      (ap (λ (b : Bool). test number && not b) (eq-eqb number number refl) ∙ never (test number))
      (λ m apart. sym (ap (λ (b : Bool). test m && not b) (ne_eqb m number apart) ∙ always (test m))) in
      let last = ap {B = ℕ} (λ (b : Bool). if b then 1 else 0) full in
      omega (arith, rest, fewer, last)
]
  where
    never : (b : Bool) → (b && false) ≡ false
    never true = refl
    never false = refl

    always : (b : Bool) → (b && true) ≡ b
    always true = refl
    always false = refl

    still : (number n : ℕ) → test n ≡ true → n ≢ number → other_than test number n ≡ true
    still number n is apart = ap (λ (b : Bool). test n && not b) (ne_eqb n number apart) ∙ always (test n) ∙ is

    was : (number n : ℕ) → other_than test number n ≡ true → test n ≡ true
    was number n is = first (test n) (not (n == number)) is
      where
        first : (a b : Bool) → (a && b) ≡ true → a ≡ true
        first true b h = refl
        first false b h = absurd (cc)

    isnt : (number n : ℕ) → other_than test number n ≡ true → n ≢ number
    isnt number n is same = absurd (
        let fails = ap (λ (b : Bool). test n && not b) (eq-eqb n number same) ∙ never (test n) in
        let bad = sym fails ∙ is in cc)

-- where each place is taken, all are
pub count_where-all : (taken : ℕ → Bool) (places : ℕ) → ((place : ℕ) → place < places → taken place ≡ true) →
    count_where taken places ≡ places
count_where-all taken places full = count_where-first taken places places (omega arith) full (λ n from below. absurd (omega (arith, from, below)))

-- where one isn't, fewer are
pub count_where-fewer : (taken : ℕ → Bool) (places place : ℕ) → place < places → taken place ≡ false →
    count_where taken places < places
count_where-fewer taken zero place below empty = absurd (omega (arith, below))
count_where-fewer taken (suc places) place below empty = elim (cases_eq place places) [
  | inl same ↦
      let few = count_where-le taken places in
      let last = ap {B = ℕ} (λ (b : Bool). if b then 1 else 0) (ap taken (sym same) ∙ empty) in
      omega (arith, few, last)
  | inr apart ↦
      let before = count_where-fewer taken places place (omega (arith, below, apart)) empty in
      let last = at_most (taken places) in
      omega (arith, before, last)
]
  where
    at_most : (b : Bool) → (if b then 1 else 0) ≤ 1
    at_most true = omega arith
    at_most false = omega arith
