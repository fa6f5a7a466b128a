-- How often a cell stands in a list.
use Rattle.std.proofs.Common.{ℕ, ◌≡◌, ◌+◌, ◌<◌, ◌==◌, refl, ap, arith, Bool, true, false, List, [], ◌∷◌, inl, inr}
use Rattle.std.proofs.lemmas.Bool.{eq-eqb, eqb-true, eqb-false}
use Rattle.std.proofs.lemmas.List.Elements.{Contains-append_cases}
use Rattle.std.specs.Prelude.{Contains, if◌then◌else◌}
use Rattle.tide_core.proofs.machine_laws.kinds.Scanning.{times_in-first}
use Rattle.tide_core.proofs.machine_laws.steps.Lists.{in_one}
use Rattle.tide_core.specs.machine.Scanning.{take_out}
use Rattle.tide_words.specs.marking.Marking.{times_in}

-- a cell taken out of a list stands there once less, and no other less often
pub times_in-take_out : (cell other : ℕ) (cells : List ℕ) → Contains cells cell →
    times_in (take_out cell cells) other + (if cell == other then 1 else 0) ≡ times_in cells other
times_in-take_out cell other [] at = absurd (let below = at.1 in omega (arith, below))
times_in-take_out cell other (x ∷ cells) at =
    by_test (x == cell) refl (λ later. times_in-take_out cell other cells later)
  where
    by_test : (b : Bool) → (x == cell) ≡ b →
        (Contains cells cell → times_in (take_out cell cells) other + (if cell == other then 1 else 0) ≡ times_in cells
        other) →
        times_in (if b then cells else x ∷ take_out cell cells) other + (if cell == other then 1 else 0) ≡ times_in
        (x ∷ cells) other
    by_test true is rest = (let first = times_in-first cells x other in let same =
        ap {B = ℕ} (λ (c : ℕ). if c == other then 1 else 0) (eqb-true x cell is) in omega (arith, first, same))
    by_test false isnt rest =
        let later : Contains cells cell = elim (Contains-append_cases (x ∷ []) cells cell at) [
          | inl here ↦
              absurd (eqb-false x cell isnt (in_one x cell here))
          | inr later ↦ later
        ] in
        let less = rest later in
        let first = times_in-first cells x other in
        let also = times_in-first (take_out cell cells) x other in
        omega (arith, less, first, also)

-- a cell of a list stands there
pub times_in-some : (cells : List ℕ) (cell : ℕ) → Contains cells cell → 0 < times_in cells cell
times_in-some cells cell at = (let less = times_in-take_out cell cell cells at in let one =
    ap {B = ℕ} (λ (b : Bool). if b then 1 else 0) (eq-eqb cell cell refl) in omega (arith, less, one))
