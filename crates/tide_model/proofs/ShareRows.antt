-- What one mutator may do in a part, and its wrong neighbours.
use Rattle.std.specs.Prelude.{◌≡◌, refl, true, false, [], ◌∷◌, None, Some}
use Rattle.std.proofs.Common.{arith, lit<, inl, inr}
use Rattle.tide_model.specs.declared.op.Op.TheVariants.{Alloc, Set, Drop, Collect}
use Rattle.tide_model.specs.declared.op.Reply.TheVariants.{Done, Born, Asked, Refused}
use Rattle.tide_model.specs.declared.op.Refusal.TheVariants.{Full}
use Rattle.tide_model.specs.Share.{HasCallLeft, IsShare}
use Rattle.tide_model.proofs.PeriodTests.{IsShare-tested}

-- a mutator may stop before its calls are used up where it asked for a cycle, or was refused for room a first time
pub stops_after_asking : IsShare 8 None true ((Drop 0, Done) ∷ (Collect, Asked) ∷ [])
stops_after_asking = IsShare-tested 8 None true ((Drop 0, Done) ∷ (Collect, Asked) ∷ []) refl

pub stops_after_refusal : IsShare 8 None true ((Alloc 0 1, Refused (Full 1)) ∷ [])
stops_after_refusal = IsShare-tested 8 None true ((Alloc 0 1, Refused (Full 1)) ∷ []) refl

-- but not for nothing
pub stops_for_nothing : IsShare 8 None true ((Drop 0, Done) ∷ []) → ⊥
stops_for_nothing share = elim (share.fewer (lit< tt)) [
  | inl retired ↦ (let e : true ≡ false = retired in cc)
  | inr ended ↦ (let e : false ≡ true = ended in cc)
]

-- nor may it go on after either
pub goes_on_after_asking : IsShare 8 None true ((Collect, Asked) ∷ (Drop 0, Done) ∷ []) → ⊥
goes_on_after_asking share =
    let may = share.each 1 (Drop 0, Done) refl in
    let e : true ≡ false = may.goes_on in
    cc

pub goes_on_after_refusal : IsShare 8 None true ((Alloc 0 1, Refused (Full 1)) ∷ (Alloc 0 1, Born 64) ∷ []) → ⊥
goes_on_after_refusal share =
    let may = share.each 1 (Alloc 0 1, Born 64) refl in
    let e : true ≡ false = may.goes_on in
    cc

-- nor make more calls than it has
pub calls_too_often : HasCallLeft 1 None ((Drop 0, Done) ∷ []) (Drop 1, Done) → ⊥
calls_too_often may = let few = may.left in omega (arith, few)

-- what was refused a first time at a part's end is tried again in the next part, and nothing else comes before it
pub tries_again : HasCallLeft 8 (Some (Alloc 0 1)) [] (Alloc 0 1, Refused (Full 1))
tries_again = record { left = lit< tt; goes_on = refl; retries = λ op is. cc }

pub skips_the_retry : IsShare 8 (Some (Alloc 0 1)) true ((Drop 0, Done) ∷ []) → ⊥
skips_the_retry share =
    let may = share.each 0 (Drop 0, Done) refl in
    let e : Drop 0 ≡ Alloc 0 1 = may.retries (Alloc 0 1) refl in
    cc

-- after its second refusal the mutator goes on
pub goes_on_after_second_refusal : HasCallLeft 8 (Some (Alloc 0 1)) ((Alloc 0 1, Refused (Full 1)) ∷ []) (Set 0 1, Done)
goes_on_after_second_refusal = record { left = lit< tt; goes_on = refl; retries = λ op is. absurd (cc) }
