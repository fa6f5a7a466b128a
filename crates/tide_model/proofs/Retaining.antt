-- What a list keeps of its elements where they are tested one after another.
use Rattle.std.proofs.Common.{◌≡◌, ◌∙◌, subst, Bool, List, [], ◌∷◌}
use Rattle.std.specs.List.Retain.{RetainsInTurn}
use Rattle.std.specs.Prelude.{cond, filter}

-- what is retained where the test stays as it is and changes no element
pub filter_in_turns : {S X : Type 0} (R : S → X → Bool → S → X → Type 0) (test : X → Bool) (s : S) →
    ((x : X) (b : Bool) (t : S) (y : X) → R s x b t y → (b ≡ test x) × (y ≡ x) × (t ≡ s)) →
    (xs ys : List X) → RetainsInTurn R s xs ys → ys ≡ filter test xs
filter_in_turns R test s each [] ys turns = turns
filter_in_turns R test s each (x ∷ xs) ys turns =
    let said = each x turns.0 turns.1 turns.2 turns.3 in
    let rest = filter_in_turns R test s each xs turns.4 (subst (λ t. RetainsInTurn R t xs turns.4) said.2 turns.5) in
    turns.6 ∙ (λ i. cond (said.0 i) (said.1 i ∷ rest i) (rest i))
