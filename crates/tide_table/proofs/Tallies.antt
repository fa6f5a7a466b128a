-- Sums over the numbers of a list, and over all numbers below one.
use Rattle.std.proofs.Common.{◌≡◌, ℕ, zero, suc, ◌+◌, ◌≤◌, ◌⊎◌, List, [], ◌∷◌, ap, inl, inr, subst, arith, Bool, true, false}
use Rattle.std.proofs.lemmas.Bool.Decides.{nat_tests}
use Rattle.std.proofs.lemmas.Bool.{cases_eq, cases_Bool}
use Rattle.std.specs.Prelude.{nat_lt, if◌then◌else◌}
use Rattle.tide_heap.specs.tide_layout.Slots.{total_below}
use Rattle.tide_heap.specs.Parties.{In, sum_of}

in_cases : (n : ℕ) (xs : List ℕ) → In n xs ⊎ (In n xs → ⊥)
in_cases n [] = inr (λ a. a)
in_cases n (x ∷ xs) = elim (cases_eq n x) [
  | inl e ↦ inl (inl e)
  | inr apart ↦ elim (in_cases n xs) [ inl a ↦ inl (inr a) | inr none ↦ inr (λ a. elim a [ inl e ↦ apart e | inr b ↦ none b ]) ]
]

-- of a list's numbers those below n
abbrev below_of : (ℕ → ℕ) → ℕ → ℕ → ℕ
below_of f n i = if nat_lt i n then f i else 0

grows_one : (f : ℕ → ℕ) (n i : ℕ) → below_of f n i ≤ below_of f (suc n) i
grows_one f n i = elim (cases_Bool (nat_lt i n)) [
  | inl is ↦ (let a = ap {B = ℕ} (λ (b : Bool). if b then f i else 0) is in let more : nat_lt i (suc n) ≡ true = grind (arith, nat_tests) in let c = ap {B = ℕ} (λ (b : Bool). if b then f i else 0) more in omega (arith, a, c))
  | inr isnt ↦ (let a = ap {B = ℕ} (λ (b : Bool). if b then f i else 0) isnt in omega (arith, a))
]

here_one : (f : ℕ → ℕ) (n : ℕ) → below_of f n n + f n ≤ below_of f (suc n) n
here_one f n = (let no : nat_lt n n ≡ false = grind (arith, nat_tests) in let yes_ : nat_lt n (suc n) ≡ true = grind (arith, nat_tests) in
    let a = ap {B = ℕ} (λ (b : Bool). if b then f n else 0) no in let c = ap {B = ℕ} (λ (b : Bool). if b then f n else 0) yes_ in omega (arith, a, c))

sum_grows : (f : ℕ → ℕ) (n : ℕ) (xs : List ℕ) → sum_of (below_of f n) xs ≤ sum_of (below_of f (suc n)) xs
sum_grows f n [] = omega arith
sum_grows f n (x ∷ xs) = (let a = sum_grows f n xs in let c = grows_one f n x in omega (arith, a, c))

sum_has : (f : ℕ → ℕ) (n : ℕ) (xs : List ℕ) → In n xs → sum_of (below_of f n) xs + f n ≤ sum_of (below_of f (suc n)) xs
sum_has f n [] a = absurd a
sum_has f n (x ∷ xs) (inl e) = (let a = sum_grows f n xs in let c = subst (λ (i : ℕ). below_of f n i + f n ≤ below_of f (suc n) i) e (here_one f n) in omega (arith, a, c))
sum_has f n (x ∷ xs) (inr h) = (let a = sum_has f n xs h in let c = grows_one f n x in omega (arith, a, c))

sum_all : (f : ℕ → ℕ) (n : ℕ) (xs : List ℕ) → sum_of (below_of f n) xs ≤ sum_of f xs
sum_all f n [] = omega arith
sum_all f n (x ∷ xs) = (let a = sum_all f n xs in let c = less (nat_lt x n) in omega (arith, a, c))
  where
    less : (b : Bool) → (if b then f x else 0) ≤ f x
    less true = omega arith
    less false = omega arith

total_up_to : (f : ℕ → ℕ) (xs : List ℕ) → ((n : ℕ) → (In n xs → ⊥) → f n ≡ 0) → (n : ℕ) → total_below f n ≤ sum_of (below_of f n) xs
total_up_to f xs none zero = omega arith
total_up_to f xs none (suc n) = elim (in_cases n xs) [
  | inl is ↦ (let a = total_up_to f xs none n in let c = sum_has f n xs is in omega (arith, a, c))
  | inr isnt ↦ (let a = total_up_to f xs none n in let c = sum_grows f n xs in let z = none n isnt in omega (arith, a, c, z))
]

-- a sum over all numbers is at most that over a list that has each number that counts
pub total_few : (f : ℕ → ℕ) (xs : List ℕ) → ((n : ℕ) → (In n xs → ⊥) → f n ≡ 0) → (n : ℕ) → total_below f n ≤ sum_of f xs
total_few f xs none n = (let a = total_up_to f xs none n in let c = sum_all f n xs in omega (arith, a, c))

-- a sum over a list is at least each of its terms
pub sum_one : (f : ℕ → ℕ) (n : ℕ) (xs : List ℕ) → In n xs → f n ≤ sum_of f xs
sum_one f n [] a = absurd a
sum_one f n (x ∷ xs) (inl e) = (let same = ap f e in omega (arith, same))
sum_one f n (x ∷ xs) (inr a) = (let rest = sum_one f n xs a in omega (arith, rest))
