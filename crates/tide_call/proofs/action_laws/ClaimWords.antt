-- What the claim word of a cell is.
use Rattle.std.proofs.Common.{ℕ, ◌≡◌, ◌<◌, refl, sym, subst, arith, Bool, true, List, [], ◌∷◌, None, Some, inl, inr}
use Rattle.std.proofs.lemmas.Bool.{cases_lt}
use Rattle.std.proofs.lemmas.Option.{none-some, same_Some}
use Rattle.std.specs.Prelude.{Contains, ◌^◌}
use Rattle.tide_words.specs.tide_layout.declared.region.Region.TheVariants.{Claim as ClaimRegion}
use Rattle.tide_words.specs.tide_layout.Limits.{IsWithinLimits}
use Rattle.tide_model.specs.Layout.{Layout, cell_count}
use Rattle.tide_model.specs.Numbers.{is_among, numbers_where}
use Rattle.tide_model.specs.References.{ClaimsAreOwn}
use Rattle.tide_model.specs.Refused.{ShapeLists}
use Rattle.tide_model.specs.State.{State}
use Rattle.tide_model.proofs.NumberLaws.{among_from_contains, below_and_passes, contains_from_among, passing_is_among}
use Rattle.tide_words.specs.heap.Heap.{Heap}
use Rattle.tide_words.specs.heap.Reading.{ReadsAs}
use Rattle.tide_call.specs.Needed.{IsSomeClaim}

-- it is that of the mutator that claims the cell, or of none
pub some_claim : (layout : Layout) (shapes : ShapeLists) (heap : Heap) (state : State) (cell : ℕ) → IsWithinLimits layout →
    ClaimsAreOwn layout state → ReadsAs layout shapes heap state → cell < cell_count layout → IsSomeClaim (heap ClaimRegion cell)
some_claim layout shapes heap state cell limits own reads within = by_holders (numbers_where claims_it layout.mutators) refl
  where
    claims_it : ℕ → Bool
    claims_it who = is_among (state.claims who) cell

    none_claims : numbers_where claims_it layout.mutators ≡ [] → (who : ℕ) → Contains (state.claims who) cell → ⊥
    none_claims none who has = elim (cases_lt who layout.mutators) [
      | inl inside ↦ absurd (
          let among = passing_is_among claims_it layout.mutators who inside (among_from_contains (state.claims who) cell has) in
          let empty = subst (λ (holders : List ℕ). is_among holders who ≡ true) none among in cc)
      | inr past ↦ absurd (
          let empty = subst (λ (claims : List ℕ). is_among claims cell ≡ true) (own.of_mutators who past)
          (among_from_contains (state.claims who) cell has) in cc)
    ]

    by_holders : (holders : List ℕ) → numbers_where claims_it layout.mutators ≡ holders → IsSomeClaim (heap ClaimRegion cell)
    by_holders [] is = (None, (λ by same. absurd (none-some by same)), reads.parts.claims.unnamed cell within (none_claims is))
    by_holders (holder ∷ others) is =
        let first : is_among (numbers_where claims_it layout.mutators) holder ≡ true =
        subst (λ (holders : List ℕ). is_among holders holder ≡ true) (sym is) (first_is_among holder others) in
        let (inside, claims) = below_and_passes claims_it layout.mutators holder first in
        let few = limits.few_mutators in (
          Some holder,
          (λ by same. small holder by (same_Some holder by same) (omega (arith, inside, few))),
          (reads.parts.claims.named cell holder within).1 (contains_from_among (state.claims holder) cell claims),
        )
      where
        first_is_among : (one : ℕ) (rest : List ℕ) → is_among (one ∷ rest) one ≡ true
        first_is_among one rest = among_from_contains (one ∷ rest) one (0, omega arith, refl)

        small : (one by : ℕ) → one ≡ by → one < 17 → by < 2 ^ 32
        small one by same few = omega (arith, same, few)
