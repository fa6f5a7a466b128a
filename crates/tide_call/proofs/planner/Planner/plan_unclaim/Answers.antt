use Rattle.std.proofs.Common.{ℕ, ◌≡◌, refl, sym, ◌∙◌, ap, arith, Bool, List, [], ◌∷◌, length, None, Some}
use Rattle.std.proofs.lemmas.Bool.{ne_eqb}
use Rattle.std.proofs.lemmas.Option.{none-some, same_Some}
use Rattle.std.specs.Prelude.{◌==◌, slice_get}
use Rattle.tide_model.specs.declared.op.Refusal.TheVariants.{NotHeld}
use Rattle.tide_model.specs.Refused.{refuse_if}
use Rattle.tide_call.proofs.planner.Planner.plan_unclaim.Goals as goal

-- the first claim stands before others, if there is one
first_claim : (claims : List ℕ) (cell : ℕ) → slice_get claims 0 ≡ Some cell → (others : List ℕ) × (claims ≡ cell ∷ others)
first_claim [] cell is = absurd (none-some cell is)
first_claim (claim ∷ others) cell is = (others, ap (λ (one : ℕ). one ∷ others) (same_Some claim cell is))

no_claim : (claims : List ℕ) → slice_get claims 0 ≡ None → claims ≡ []
no_claim [] is = refl
no_claim (claim ∷ others) is = absurd (none-some claim (sym is))

pub returns-in-Some : goal.returns-in-Some
returns-in-Some g c = record {
  action = λ heap state is_caller.
      let (others, are) = first_claim c.args.self.now.claims c.in-Some.cell
      (ap (λ (claims : List ℕ). slice_get claims 0) (sym c.claims.ensures) ∙ sym c.oldest.ensures ∙ c.in-Some.is) in (
        ap (λ (none : Bool). refuse_if none NotHeld)
            (ap (λ (claims : List ℕ). length claims == 0) (is_caller.claims ∙ are) ∙ ne_eqb (length (c.in-Some.cell ∷ others)) 0 (λ is. omega (arith, is))),
        (c.in-Some.cell, others, are, refl),
      );
}

pub returns-in-None : goal.returns-in-None
returns-in-None g c = record {
  action = λ heap state is_caller.
      let none = no_claim c.args.self.now.claims
      (ap (λ (claims : List ℕ). slice_get claims 0) (sym c.claims.ensures) ∙ sym c.oldest.ensures ∙ c.in-None.is) in
      ap (λ (claims : List ℕ). refuse_if (length claims == 0) NotHeld) (is_caller.claims ∙ none);
}
