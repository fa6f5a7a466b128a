-- The cells of a grey word, counted, are its bits.
use Rattle.std.proofs.Common.{ℕ, zero, suc, ◌≡◌, ◌≢◌, ◌+◌, ◌*◌, ◌%◌, ◌<◌, ◌==◌, refl, sym, ◌∙◌, ap, subst, arith, Bool, true, false, List, [], ◌∷◌, ◌++◌, inl, inr}
use Rattle.std.proofs.lemmas.Bool.{cases_eq, eq-eqb, ne_eqb}
use Rattle.std.proofs.lemmas.List.Sums.{sum_by-append}
use Rattle.std.proofs.lemmas.Nat.Bits.{bit_at-lt}
use Rattle.std.specs.Int.{bit_at}
use Rattle.std.specs.Prelude.{if◌then◌else◌, map}
use Rattle.tide_core.specs.machine.Words.{cells_in}
use Rattle.tide_model.specs.Layout.{block_of_cell}
use Rattle.tide_model.specs.Numbers.{numbers_where}
use Rattle.tide_words.specs.marking.Marking.{times_in}

pub times_in-append : (xs ys : List ℕ) (cell : ℕ) → times_in (xs ++ ys) cell ≡ times_in xs cell + times_in ys cell
times_in-append xs ys cell = sum_by-append {X = ℕ} (λ c. if c == cell then 1 else 0) xs ys

-- the cells whose bits pass a test
abbrev among : ℕ → (ℕ → Bool) → ℕ → List ℕ
among block test n = map (λ k. 64 * block + k) (numbers_where test n)

map-append : (f : ℕ → ℕ) (xs ys : List ℕ) → map f (xs ++ ys) ≡ map f xs ++ map f ys
map-append f [] ys = refl
map-append f (x ∷ xs) ys = ap (λ (l : List ℕ). f x ∷ l) (map-append f xs ys)

among-more : (block : ℕ) (test : ℕ → Bool) (n : ℕ) →
    among block test (suc n) ≡ among block test n ++ (if test n then (64 * block + n) ∷ [] else [])
among-more block test n =
    map-append (λ k. 64 * block + k) (numbers_where test n) (if test n then n ∷ [] else [])
    ∙ ap (λ (l : List ℕ). among block test n ++ l) (last (test n))
  where
    last : (b : Bool) → map (λ k. 64 * block + k) (if b then n ∷ [] else []) ≡
        (if b then (64 * block + n) ∷ [] else [])
    last true = refl
    last false = refl

times_in-if : (b : Bool) (x cell : ℕ) →
    times_in (if b then x ∷ [] else []) cell ≡ (if b then (if x == cell then 1 else 0) else 0)
times_in-if true x cell = omega arith
times_in-if false x cell = refl

times_in-elsewhere : (block : ℕ) (test : ℕ → Bool) (n cell : ℕ) → ((k : ℕ) → k < n → 64 * block + k ≢ cell) →
    times_in (among block test n) cell ≡ 0
times_in-elsewhere block test zero cell apart = refl
times_in-elsewhere block test (suc n) cell apart =
    let parts = ap (λ (l : List ℕ). times_in l cell) (among-more block test n)
    ∙ times_in-append (among block test n) (if test n then (64 * block + n) ∷ [] else []) cell in
    let before = times_in-elsewhere block test n cell (λ k below. apart k (omega (arith, below))) in
    let last = times_in-if (test n) (64 * block + n) cell in
    let no_one = ne_eqb (64 * block + n) cell (apart n (omega arith)) in
    let none = by_test (test n) no_one in
    omega (arith, parts, before, last, none)
  where
    by_test : (b : Bool) → (64 * block + n == cell) ≡ false →
        ◌≡◌ {A = ℕ} (if b then (if 64 * block + n == cell then 1 else 0) else 0) 0
    by_test true no_one = ap {B = ℕ} (λ (c : Bool). if c then 1 else 0) no_one
    by_test false no_one = refl

times_in-bit : (block : ℕ) (test : ℕ → Bool) (n k : ℕ) → k < n →
    times_in (among block test n) (64 * block + k) ≡ (if test k then 1 else 0)
times_in-bit block test zero k below = absurd (omega (arith, below))
times_in-bit block test (suc n) k below =
    let parts = ap (λ (l : List ℕ). times_in l (64 * block + k)) (among-more block test n)
    ∙ times_in-append (among block test n) (if test n then (64 * block + n) ∷ [] else []) (64 * block + k) in
    let last = times_in-if (test n) (64 * block + n) (64 * block + k) in
    elim (cases_eq k n) [
      | inl same ↦
          let before = times_in-elsewhere block test n (64 * block + k) (λ j under e.
          omega (arith, under, e, same)) in
          let one = ap {B = ℕ} (λ (b : Bool). if test n then (if b then 1 else 0) else 0)
          (eq-eqb (64 * block + n) (64 * block + k) (omega (arith, same))) in
          let here = ap {B = ℕ} (λ (j : ℕ). if test j then 1 else 0) same in
          omega (arith, parts, last, before, one, here)
      | inr apart ↦
          let before = times_in-bit block test n k (omega (arith, below, apart)) in
          let no_one = ap {B = ℕ} (λ (b : Bool). if test n then (if b then 1 else 0) else 0)
          (ne_eqb (64 * block + n) (64 * block + k) (λ e. apart (omega (arith, e)))) in
          let none = zero_if (test n) in
          omega (arith, parts, last, before, no_one, none)
    ]
  where
    zero_if : (b : Bool) → ◌≡◌ {A = ℕ} (if b then 0 else 0) 0
    zero_if true = refl
    zero_if false = refl

-- a cell stands among those of a block's word as often as its bit says
pub times_in-cells : (block word cell : ℕ) →
    times_in (cells_in block word) cell ≡ (if block_of_cell cell == block then bit_at word (cell % 64) else 0)
times_in-cells block word cell = elim (cases_eq (block_of_cell cell) block) [
  | inl same ↦
      let is : 64 * block + cell % 64 ≡ cell = omega (arith, same) in
      subst (λ (c : ℕ). times_in (cells_in block word) c ≡ (if bit_at word (cell % 64) == 1 then 1 else 0)) is
      (times_in-bit block (λ k. bit_at word k == 1) 64 (cell % 64) (omega arith))
      ∙ of_bit (bit_at word (cell % 64)) (bit_at-lt word (cell % 64)) ∙
      sym (ap (λ (b : Bool). if b then bit_at word (cell % 64) else 0) (eq-eqb (block_of_cell cell) block same))
  | inr apart ↦
      times_in-elsewhere block (λ k. bit_at word k == 1) 64 cell (λ k below e. apart (omega (arith, below, e)))
      ∙ sym (ap (λ (b : Bool). if b then bit_at word (cell % 64) else 0) (ne_eqb (block_of_cell cell) block apart))
]
  where
    of_bit : (n : ℕ) → n < 2 → (if n == 1 then 1 else 0) ≡ n
    of_bit zero h = refl
    of_bit (suc zero) h = refl
    of_bit (suc (suc n)) h = absurd (omega (arith, h))

-- a cell that stands there once or more stands in the list
pub in_by_times : (cells : List ℕ) (cell : ℕ) → 0 < times_in cells cell → Rattle.std.specs.Prelude.Contains cells cell
in_by_times [] cell some = absurd (omega (arith, some))
in_by_times (x ∷ cells) cell some = elim (cases_eq x cell) [
  | inl same ↦ (0, omega arith, same)
  | inr apart ↦
      let first = sum_by-append {X = ℕ} (λ c. if c == cell then 1 else 0) (x ∷ []) cells in
      let none = ap {B = ℕ} (λ (b : Bool). if b then 1 else 0) (ne_eqb x cell apart) in
      let parts : times_in (x ∷ cells) cell ≡ times_in (x ∷ []) cell + times_in cells cell = first in
      let one : times_in (x ∷ []) cell ≡ (if x == cell then 1 else 0) = omega arith in
      Rattle.std.proofs.lemmas.List.Elements.Contains-append_right (x ∷ []) cells cell
      (in_by_times cells cell (omega (arith, parts, one, none, some)))
]
