-- How many numbers below a bound pass a test, beside other tests.
use Rattle.std.proofs.Common.{ℕ, zero, suc, ◌≡◌, ◌+◌, ◌<◌, ◌≤◌, refl, ap, arith, Bool, true, false, inl, inr}
use Rattle.std.proofs.lemmas.Bool.{cases_eq, eq-eqb, ne_eqb}
use Rattle.std.specs.Prelude.{◌==◌, ◌&&◌, if◌then◌else◌}
use Rattle.tide_model.specs.Numbers.{count_where}

-- none do where each fails it
pub count_where-none : (test : ℕ → Bool) (bound : ℕ) → ((n : ℕ) → n < bound → test n ≡ false) →
    count_where test bound ≡ 0
count_where-none test zero fails = refl
count_where-none test (suc bound) fails =
    let before = count_where-none test bound (λ n below. fails n (omega (arith, below))) in
    let here = ap {B = ℕ} (λ (b : Bool). if b then 1 else 0) (fails bound (omega arith)) in
    omega (arith, before, here)

-- one at most is a given number
pub count_where-single : (other bound : ℕ) → count_where (λ n. other == n) bound ≤ 1
count_where-single other zero = omega arith
count_where-single other (suc bound) = elim (cases_eq other bound) [
  | inl same ↦
      let none = count_where-none (λ n. other == n) bound
      (λ n below. ne_eqb other n (λ is. omega (arith, is, same, below))) in
      let here = ap {B = ℕ} (λ (b : Bool). if b then 1 else 0) (eq-eqb other bound same) in
      omega (arith, none, here)
  | inr apart ↦
      let before = count_where-single other bound in
      let here = ap {B = ℕ} (λ (b : Bool). if b then 1 else 0) (ne_eqb other bound apart) in
      omega (arith, before, here)
]

-- where each that passes a test passes one of two others, they are no more than those two have
pub count_where-either : (one left right : ℕ → Bool) (bound : ℕ) →
    ((n : ℕ) → n < bound → one n ≡ true → left n ≡ false → right n ≡ true) →
    count_where one bound ≤ count_where left bound + count_where right bound
count_where-either one left right zero cases = omega arith
count_where-either one left right (suc bound) cases =
    let before = count_where-either one left right bound (λ n below. cases n (omega (arith, below))) in
    let here = step (one bound) (left bound) (right bound) (cases bound (omega arith)) in
    omega (arith, before, here)
  where
    step : (a b c : Bool) → (a ≡ true → b ≡ false → c ≡ true) →
        (if a then 1 else 0) ≤ (if b then 1 else 0) + (if c then 1 else 0)
    step true true c h = omega arith
    step true false true h = omega arith
    step true false false h = absurd (let bad = h refl refl in cc)
    step false b c h = omega arith

-- What a wider test adds to a narrower one is at least what it adds among those that pass a third.
pub count_where-wider : (narrow wide also : ℕ → Bool) (bound : ℕ) →
    ((n : ℕ) → n < bound → narrow n ≡ true → wide n ≡ true) →
    count_where (λ n. wide n && also n) bound + count_where narrow bound
    ≤ count_where (λ n. narrow n && also n) bound + count_where wide bound
count_where-wider narrow wide also zero within = omega arith
count_where-wider narrow wide also (suc bound) within =
    let before = count_where-wider narrow wide also bound (λ n below. within n (omega (arith, below))) in
    let here = step (narrow bound) (wide bound) (also bound) (within bound (omega arith)) in
    omega (arith, before, here)
  where
    step : (a b c : Bool) → (a ≡ true → b ≡ true) →
        (if b && c then 1 else 0) + (if a then 1 else 0) ≤ (if a && c then 1 else 0) + (if b then 1 else 0)
    step true true true h = omega arith
    step true true false h = omega arith
    step true false c h = absurd (let bad = h refl in cc)
    step false true true h = omega arith
    step false true false h = omega arith
    step false false c h = omega arith
