-- Where the first element that passes a test stands.
use Rattle.std.proofs.Common.{ℕ, ◌≡◌, ◌<◌, sym, ◌∙◌, ap, arith, Bool, true, false, cond, ltb, List, length, get_or, None, Some, inl, inr}
use Rattle.std.proofs.lemmas.Bool.{cases_lt, cond-true, cond-false, lt-ltb, le-ltb, eqb-true, eq-eqb}
use Rattle.std.proofs.lemmas.List.Quantifiers.{position-Some}
use Rattle.std.proofs.lemmas.List.Sums.{position_or_len_is, fails_before_first}
use Rattle.std.proofs.lemmas.Option.{none-some, slice_get-get_or}
use Rattle.std.specs.List.{position_or_len}
use Rattle.std.specs.Prelude.{position, slice_get, All, Contains, ◌==◌}

-- it stands at a place where it passes and none before does, and nowhere where none passes
pub position_at : {X : Type 0} (p : X → Bool) (xs : List X) (i : ℕ) (d : X) → i < length xs → ((k : ℕ) → k < i → p (get_or xs k d) ≡ false) →
    p (get_or xs i d) ≡ true → position p xs ≡ Some i
position_at p xs i d within before passes =
    ap (λ (n : ℕ). cond (ltb n (length xs)) (Some n) None) (position_or_len_is p xs i d (omega arith) before (λ _. passes))
    ∙ cond-true (ltb i (length xs)) (Some i) None (lt-ltb i (length xs) within)

pub position_nowhere : {X : Type 0} (p : X → Bool) (xs : List X) (d : X) → ((k : ℕ) → k < length xs → p (get_or xs k d) ≡ false) → position p xs ≡ None
position_nowhere p xs d fails =
    ap (λ (n : ℕ). cond (ltb n (length xs)) (Some n) None) (position_or_len_is p xs (length xs) d (omega arith) fails (λ h. absurd (omega arith)))
    ∙ cond-false (ltb (length xs) (length xs)) (Some (length xs)) None (le-ltb (length xs) (length xs) (omega arith))

-- where it stands nowhere, none passes
pub All-position : {X : Type 0} (p : X → Bool) (xs : List X) → position p xs ≡ None → All (λ x. p x ≡ false) xs
All-position p xs none k d within =
    elim (cases_lt (position_or_len p xs) (length xs)) [
      | inl there ↦ absurd (none-some (position_or_len p xs)
          (sym none ∙ cond-true (ltb (position_or_len p xs) (length xs)) (Some (position_or_len p xs)) None (lt-ltb (position_or_len p xs) (length xs) there)))
      | inr nowhere ↦ fails_before_first p xs k d (omega arith)
    ]

-- a number that is looked for stands there, or isn't one of them
pub slice_get-position : (xs : List ℕ) (n i : ℕ) → position (λ x. x == n) xs ≡ Some i → slice_get xs i ≡ Some n
slice_get-position xs n i is =
    let at = position-Some (λ x. x == n) xs i 0 is in
    slice_get-get_or xs i 0 at.0 ∙ ap (λ (x : ℕ). Some x) (eqb-true (get_or xs i 0) n at.1)

pub absent-position : (xs : List ℕ) (n : ℕ) → position (λ x. x == n) xs ≡ None → ¬ (Contains xs n)
absent-position xs n none found =
    let fails : (get_or xs found.0 n == n) ≡ false = All-position (λ x. x == n) xs none found.0 n found.1 in
    let passes = eq-eqb (get_or xs found.0 n) n found.2 in cc
