-- Who claims a cell.
use Rattle.std.proofs.Common.{ℕ, zero, suc, ◌≡◌, ◌<◌, sym, ◌∙◌, ap, arith, Bool, true, List, [], ◌∷◌, ◌++◌, inl, inr}
use Rattle.std.proofs.lemmas.Bool.{cases_eq}
use Rattle.std.specs.Prelude.{if◌then◌else◌, Some}
use Rattle.tide_model.specs.declared.op.Refusal.TheVariants.{Held}
use Rattle.tide_model.specs.Numbers.{numbers_where}
use Rattle.tide_model.specs.Refused.{held_by}

-- the first number that passes comes first
pub numbers_where-first : (test : ℕ → Bool) (bound n : ℕ) → n < bound → numbers_where test n ≡ [] → test n ≡ true →
    (rest : List ℕ) × (numbers_where test bound ≡ n ∷ rest)
numbers_where-first test zero n below none passes = absurd (omega arith)
numbers_where-first test (suc bound) n below none passes = elim (cases_eq n bound) [
  | inl same ↦ (
    [],
    ap (λ (k : ℕ). numbers_where test k ++ (if test k then k ∷ [] else [])) (sym same)
        ∙ (λ i. none i ++ (if passes i then n ∷ [] else [])),
  )
  | inr differs ↦
      let early = numbers_where-first test bound n (omega arith) none passes in
      (early.0 ++ (if test bound then bound ∷ [] else []), ap (λ (xs : List ℕ). xs ++ (if test bound then bound ∷ [] else [])) early.1)
]

pub held_by-first : (test : ℕ → Bool) (bound n : ℕ) → n < bound → numbers_where test n ≡ [] → test n ≡ true → held_by (numbers_where test bound) ≡ Some (Held n)
held_by-first test bound n below none passes = ap held_by (numbers_where-first test bound n below none passes).1
