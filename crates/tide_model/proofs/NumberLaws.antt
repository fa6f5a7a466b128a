-- Functions with another value at one place, membership, lists of numbers below a bound, and their number.
use Rattle.std.proofs.Common.{ℕ, zero, suc, ◌≡◌, ◌+◌, ◌<◌, refl, sym, ◌∙◌, ap, subst, arith, Bool, true, false, List, [], ◌∷◌, ◌++◌, length, append-nil, get_or, inl, inr, eq-eqb, length-append, ◌≢◌, true≢false}
use Rattle.std.proofs.lemmas.Bool.{eqb-true, eqb-false, ne_eqb, or_parts}
use Rattle.std.proofs.lemmas.Bool.Decides.{eqb_tells}
use Rattle.std.specs.List.{list_any}
use Rattle.std.proofs.Math.ListN.{get_or-append}
use Rattle.std.proofs.Math.Seq.{get_or-append_seam}
use Rattle.std.proofs.lemmas.List.{get_or_default}
use Rattle.std.specs.Prelude.{◌==◌, ◌||◌, if◌then◌else◌, ◌⊎◌, Contains}
use Rattle.std.specs.List.Sorted.{IsStrictlyIncreasing}
use Rattle.tide_model.specs.Numbers.{put_at, is_among, numbers_where, count_where, any_below}

-- what holds of the new value at its place, and of the old ones elsewhere, holds of all
pub put_at_elim : {X : Type 0} (P : ℕ → X → Type 0) (f : ℕ → X) (place : ℕ) (value : X) →
    P place value → ((n : ℕ) → n ≢ place → P n (f n)) → (n : ℕ) → P n (put_at f place value n)
put_at_elim {X} P f place value here elsewhere n = step (n == place) refl
  where
    step : (same : Bool) → (n == place) ≡ same → P n (if same then value else f n)
    step true e = subst (λ (k : ℕ). P k value) (sym (eqb-true n place e)) here
    step false e = elsewhere n (eqb-false n place e)

-- what is among two lists is among one of them
pub is_among-append : (xs ys : List ℕ) (n : ℕ) → is_among (xs ++ ys) n ≡ (is_among xs n || is_among ys n)
is_among-append [] ys n = refl
is_among-append (x ∷ xs) ys n = join (n == x) (is_among xs n) (is_among ys n) (is_among (xs ++ ys) n) (is_among-append xs ys n)
  where
    join : (a b c d : Bool) → d ≡ (b || c) → (a || d) ≡ ((a || b) || c)
    join true b c d e = refl
    join false b c d e = e

or_cases : (a b : Bool) → (a || b) ≡ true → (a ≡ true) ⊎ (b ≡ true)
or_cases true b h = inl refl
or_cases false b h = inr h

or_right : (a b : Bool) → b ≡ true → (a || b) ≡ true
or_right true b h = refl
or_right false b h = h

-- a list with one more at the end
pub among_push_cases : (xs : List ℕ) (x n : ℕ) → is_among (xs ++ x ∷ []) n ≡ true → (is_among xs n ≡ true) ⊎ (n ≡ x)
among_push_cases xs x n h =
    elim (or_cases (is_among xs n) ((n == x) || false) (sym (is_among-append xs (x ∷ []) n) ∙ h)) [
      | inl old ↦ inl old
      | inr new ↦ inr (elim (or_cases (n == x) false new) [ inl same ↦ eqb-true n x same | inr bad ↦ absurd (cc) ])
    ]

pub among_push_last : (xs : List ℕ) (x : ℕ) → is_among (xs ++ x ∷ []) x ≡ true
among_push_last xs x = is_among-append xs (x ∷ []) x ∙ or_right (is_among xs x) ((x == x) || false) (ap (λ (b : Bool). b || false) (eq-eqb x x refl))

pub among_push_old : (xs : List ℕ) (x n : ℕ) → is_among xs n ≡ true → is_among (xs ++ x ∷ []) n ≡ true
among_push_old xs x n h = is_among-append xs (x ∷ []) n ∙ ap (λ (b : Bool). b || is_among (x ∷ []) n) h

-- the first of a list is among it, and so is what is among the others
pub among_first : (x : ℕ) (xs : List ℕ) → is_among (x ∷ xs) x ≡ true
among_first x xs = ap (λ (b : Bool). b || is_among xs x) (eq-eqb x x refl)

pub among_rest : (x : ℕ) (xs : List ℕ) (n : ℕ) → is_among xs n ≡ true → is_among (x ∷ xs) n ≡ true
among_rest x xs n h = or_right (n == x) (is_among xs n) h

-- an element is among its list
pub among_get_or : (xs : List ℕ) (k : ℕ) → k < length xs → is_among xs (get_or xs k 0) ≡ true
among_get_or [] k h = absurd (omega arith)
among_get_or (x ∷ xs) zero h = among_first x xs
among_get_or (x ∷ xs) (suc k) h = among_rest x xs (get_or xs k 0) (among_get_or xs k (omega arith))

-- what each of some numbers below a bound is
pub below_and_passes : (test : ℕ → Bool) (bound n : ℕ) → is_among (numbers_where test bound) n ≡ true → (n < bound) × (test n ≡ true)
below_and_passes test zero n is = absurd (cc)
below_and_passes test (suc bound) n is = step (test bound) refl
    (λ h. let e = below_and_passes test bound n h in e) is
  where
    step : (passes : Bool) → test bound ≡ passes
        → (is_among (numbers_where test bound) n ≡ true → (n < bound) × (test n ≡ true))
        → is_among (numbers_where test bound ++ (if passes then bound ∷ [] else [])) n ≡ true → (n < suc bound) × (test n ≡ true)
    step true at before h = elim (among_push_cases (numbers_where test bound) bound n h) [
      | inl old ↦ (let b = before old in (let l : n < bound = b.0 in omega arith, b.1))
      | inr same ↦ (omega arith, ap test same ∙ at)
    ]
    step false at before h =
        let b = before (subst (λ (xs : List ℕ). is_among xs n ≡ true) (append-nil (numbers_where test bound)) h) in
        (let l : n < bound = b.0 in omega arith, b.1)

-- each number below the bound that passes is there
pub passing_is_among : (test : ℕ → Bool) (bound n : ℕ) → n < bound → test n ≡ true → is_among (numbers_where test bound) n ≡ true
passing_is_among test zero n h passes = absurd (omega arith)
passing_is_among test (suc bound) n h passes = elim (nearer n bound h) [
  | inl below ↦ is_among-append (numbers_where test bound) (if test bound then bound ∷ [] else []) n
      ∙ ap (λ (b : Bool). b || is_among (if test bound then bound ∷ [] else []) n) (passing_is_among test bound n below passes)
  | inr same ↦ at_last (test bound) (ap test (sym same) ∙ passes) same
]
  where
    nearer : (k b : ℕ) → k < suc b → (k < b) ⊎ (k ≡ b)
    nearer zero zero l = inr refl
    nearer zero (suc b) l = inl (omega arith)
    nearer (suc k) zero l = absurd (omega arith)
    nearer (suc k) (suc b) l = elim (nearer k b (omega arith)) [ inl m ↦ inl (omega arith) | inr e ↦ inr (ap suc e) ]

    at_last : (last : Bool) → last ≡ true → n ≡ bound → is_among (numbers_where test bound ++ (if last then bound ∷ [] else [])) n ≡ true
    at_last true e same = subst (λ (m : ℕ). is_among (numbers_where test bound ++ bound ∷ []) m ≡ true) (sym same) (among_push_last (numbers_where test bound) bound)
    at_last false e same = absurd (cc)

-- a rising list with a larger number at the end rises
pub rising_push : (xs : List ℕ) (x : ℕ) → IsStrictlyIncreasing xs → ((n : ℕ) → is_among xs n ≡ true → n < x) → IsStrictlyIncreasing (xs ++ x ∷ [])
rising_push xs x rising below k h =
    let len : length (xs ++ x ∷ []) ≡ length xs + 1 = length-append xs (x ∷ []) in
    elim (before_or_last k (length xs) (omega (arith, len))) [
      | inl early ↦
          let a = get_or-append xs (x ∷ []) 0 k (omega arith) in
          let b = get_or-append xs (x ∷ []) 0 (k + 1) early in
          let c = rising k early in
          omega (arith, a, b, c)
      | inr last ↦
          let a = get_or-append xs (x ∷ []) 0 k (omega arith) in
          let b = ap (λ (i : ℕ). get_or (xs ++ x ∷ []) i 0) last ∙ get_or-append_seam xs x [] 0 in
          let c = below (get_or xs k 0) (among_get_or xs k (omega arith)) in
          omega (arith, a, b, c)
    ]
  where
    before_or_last : (i n : ℕ) → i + 1 < n + 1 → (i + 1 < n) ⊎ (i + 1 ≡ n)
    before_or_last zero zero l = absurd (omega arith)
    before_or_last zero (suc zero) l = inr (omega arith)
    before_or_last zero (suc (suc n)) l = inl (omega arith)
    before_or_last (suc i) zero l = absurd (omega arith)
    before_or_last (suc i) (suc n) l = elim (before_or_last i n (omega arith)) [ inl m ↦ inl (omega arith) | inr e ↦ inr (omega arith) ]

pub numbers_where-rising : (test : ℕ → Bool) (bound : ℕ) → IsStrictlyIncreasing (numbers_where test bound)
numbers_where-rising test zero = λ k h. absurd (omega arith)
numbers_where-rising test (suc bound) = step (numbers_where-rising test bound) (test bound)
  where
    step : IsStrictlyIncreasing (numbers_where test bound) → (passes : Bool) → IsStrictlyIncreasing (numbers_where test bound ++ (if passes then bound ∷ [] else []))
    step rising true = rising_push (numbers_where test bound) bound rising (λ n is. (below_and_passes test bound n is).0)
    step rising false = subst IsStrictlyIncreasing (sym (append-nil (numbers_where test bound))) rising

-- tests that agree below the bound give the same numbers, and as many
pub count_where-same : (one other : ℕ → Bool) (bound : ℕ) → ((n : ℕ) → n < bound → one n ≡ other n) → count_where one bound ≡ count_where other bound
count_where-same one other zero same = refl
count_where-same one other (suc bound) same =
    let a = count_where-same one other bound (λ n h. same n (omega arith)) in
    let b = ap {B = ℕ} (λ (t : Bool). if t then 1 else 0) (same bound (omega arith)) in
    omega (arith, a, b)

-- between the two ways to say that a number is in a list
pub among_from_contains : (xs : List ℕ) (n : ℕ) → Contains xs n → is_among xs n ≡ true
among_from_contains xs n at = subst (λ (k : ℕ). is_among xs k ≡ true) (sym (get_or_default xs at.0 n 0 at.1) ∙ at.2) (among_get_or xs at.0 at.1)

pub contains_from_among : (xs : List ℕ) (n : ℕ) → is_among xs n ≡ true → Contains xs n
contains_from_among [] n among = absurd (cc)
contains_from_among (x ∷ xs) n among = elim (or_cases (n == x) (is_among xs n) among) [
  | inl here ↦ (0, omega arith, sym (eqb-true n x here))
  | inr later ↦ let at = contains_from_among xs n later in (suc at.0, let below = at.1 in omega (arith, below), at.2)
]

-- the two tests say whether a number is in a list
pub list_any-among : (xs : List ℕ) (n : ℕ) → list_any (λ x. x == n) xs ≡ is_among xs n
list_any-among [] n = refl
list_any-among (x ∷ xs) n = λ i. turned i || list_any-among xs n i
  where
    turned : (x == n) ≡ (n == x)
    turned = elim (eqb_tells x n) [
      | inl same ↦ same.0 ∙ sym (eq-eqb n x (sym same.1))
      | inr other ↦ other.0 ∙ sym (ne_eqb n x (λ e. other.1 (sym e)))
    ]

-- the numbers below a bound that pass, where none does, and where just one does
pub numbers_where-none : (test : ℕ → Bool) (bound : ℕ) → ((n : ℕ) → n < bound → test n ≡ false) → numbers_where test bound ≡ []
numbers_where-none test zero none = refl
numbers_where-none test (suc bound) none =
    ap (λ (xs : List ℕ). xs ++ (if test bound then bound ∷ [] else [])) (numbers_where-none test bound (λ n below. none n (omega (arith, below))))
    ∙ ap (λ (b : Bool). if b then bound ∷ [] else []) (none bound (omega arith))

pub numbers_where-one : (test : ℕ → Bool) (bound n : ℕ) → n < bound → test n ≡ true → ((m : ℕ) → m < bound → test m ≡ true → m ≡ n) → numbers_where test bound ≡ n ∷ []
numbers_where-one test zero n below passes alone = absurd (omega arith)
numbers_where-one test (suc bound) n below passes alone =
    step (test bound) refl (λ early. numbers_where-one test bound n early passes (λ m under. alone m (omega (arith, under))))
  where
    fails : n ≡ bound → (m : ℕ) → m < bound → (b : Bool) → test m ≡ b → b ≡ false
    fails same m under true e = absurd (let again = alone m (omega (arith, under)) e in omega (arith, again, same, under))
    fails same m under false e = refl

    step : (last : Bool) → test bound ≡ last → (n < bound → numbers_where test bound ≡ n ∷ []) → numbers_where test bound ++ (if last then bound ∷ [] else []) ≡ n ∷ []
    step true e before =
        let same : bound ≡ n = alone bound (omega arith) e in
        ap (λ (xs : List ℕ). xs ++ bound ∷ []) (numbers_where-none test bound (λ m under. fails (sym same) m under (test m) refl))
        ∙ ap (λ (k : ℕ). k ∷ []) same
    step false e before = append-nil (numbers_where test bound) ∙ before (let differs : n ≢ bound = λ same. true≢false (sym passes ∙ ap test same ∙ e) in omega (arith, below, differs))

-- where no number below a bound passes a test, each fails it
pub any_below-false : (test : ℕ → Bool) (bound n : ℕ) → any_below test bound ≡ false → n < bound → test n ≡ false
any_below-false test zero n none below = absurd (omega arith)
any_below-false test (suc bound) n none below =
    let (earlier, last) = or_parts (any_below test bound) (test bound) none in
    step (n == bound) refl last (λ less. any_below-false test bound n earlier less)
  where
    step : (same : Bool) → (n == bound) ≡ same → test bound ≡ false → (n < bound → test n ≡ false) → test n ≡ false
    step true at last rest = ap test (eqb-true n bound at) ∙ last
    step false at last rest = let other = eqb-false n bound at in rest (omega (arith, below, other))

-- as many numbers as pass
pub length-numbers_where : (test : ℕ → Bool) (bound : ℕ) → length (numbers_where test bound) ≡ count_where test bound
length-numbers_where test zero = refl
length-numbers_where test (suc bound) =
    length-append (numbers_where test bound) (if test bound then bound ∷ [] else [])
    ∙ ap (λ (n : ℕ). n + length (if test bound then bound ∷ [] else [])) (length-numbers_where test bound)
    ∙ ap (λ (n : ℕ). count_where test bound + n) (last (test bound))
  where
    last : (passes : Bool) → length (if passes then bound ∷ [] else []) ≡ (if passes then 1 else 0)
    last true = refl
    last false = refl
