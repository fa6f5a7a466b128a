-- What the list of grey cells answers, by the clauses of its calls: the last cell pushed is the first one popped.
use Rattle.std.proofs.Common.{ℕ, ◌≡◌, ◌++◌, List, [], ◌∷◌, refl, sym, ap, arith, length, length-append}
use Rattle.std.specs.Prelude.{slice_index}
use Rattle.tide_words.specs.marking.Greys.{Greys, pushed}

-- room for eight, and these cells
abbrev eight : List ℕ → Greys
eight cells = record { cells = cells; cap = 8 }

pushes : pushed (pushed (eight []) 5) 3 ≡ eight (5 ∷ 3 ∷ [])
pushes = refl

-- the end of a list of two
last_of_two : (front : List ℕ) (cell : ℕ) → 5 ∷ 3 ∷ [] ≡ front ++ cell ∷ [] → (cell ≡ 3) × (front ≡ 5 ∷ [])
last_of_two [] cell same = absurd (let short = ap {A = List ℕ} length same in omega (arith, short))
last_of_two (first ∷ []) cell same = (sym (ap (λ (cells : List ℕ). slice_index cells 1) same), ap (λ (n : ℕ). n ∷ []) (sym (ap (λ (cells : List ℕ). slice_index cells 0) same)))
last_of_two (first ∷ second ∷ rest) cell same = absurd (let long = ap {A = List ℕ} length same in let parts = length-append rest (cell ∷ []) in omega (arith, long, parts))

popped : (left : Greys) (cell : ℕ) → eight (5 ∷ 3 ∷ []) ≡ pushed left cell → (cell ≡ 3) × (left.cells ≡ 5 ∷ [])
popped left cell same = last_of_two left.cells cell (ap (λ (greys : Greys). greys.cells) same)

popped_last : (left : Greys) (cell : ℕ) → eight (5 ∷ []) ≡ pushed left cell → (cell ≡ 5) × (left.cells ≡ [])
popped_last left cell same = last_of_one left.cells (ap (λ (greys : Greys). greys.cells) same)
  where
    last_of_one : (front : List ℕ) → 5 ∷ [] ≡ front ++ cell ∷ [] → (cell ≡ 5) × (front ≡ [])
    last_of_one [] one = (sym (ap (λ (cells : List ℕ). slice_index cells 0) one), refl)
    last_of_one (first ∷ rest) one = absurd (let long = ap {A = List ℕ} length one in let parts = length-append rest (cell ∷ []) in omega (arith, long, parts))
