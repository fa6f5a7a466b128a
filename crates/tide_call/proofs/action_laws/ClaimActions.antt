-- What refuses a claim, by the claim word of the cell.
use Rattle.std.proofs.Common.{ℕ, ◌≡◌, ◌<◌, refl, sym, ◌∙◌, ap, subst, true, List, [], ◌∷◌, length, Option, None, Some, inl, inr}
use Rattle.std.proofs.lemmas.Bool.{cases_lt, false_from_ne_true}
use Rattle.std.proofs.lemmas.Option.{none-some}
use Rattle.std.specs.Prelude.{Contains, nat_le}
use Rattle.tide_words.specs.tide_layout.declared.region.Region.TheVariants.{Claim as ClaimRegion}
use Rattle.tide_model.specs.declared.op.Refusal.{Refusal}
use Rattle.tide_model.specs.declared.op.Refusal.TheVariants.{ClaimsFull}
use Rattle.tide_model.specs.declared.val.Val.{Val}
use Rattle.tide_model.specs.Numbers.{is_among}
use Rattle.tide_model.specs.Refused.{claims_most, first_of, held_by, holders_of, refusal_at, refuse_if}
use Rattle.tide_model.proofs.NumberLaws.{among_from_contains, contains_from_among, numbers_where-none, numbers_where-one}
use Rattle.tide_words.specs.forms.Reference.{claim_word}
use Rattle.tide_words.proofs.form_laws.FormLaws.{same_from_optional_word}
use Rattle.tide_call.specs.Laws.{ClaimsAreTold}

pub claims_are_told : ClaimsAreTold
claims_are_told layout shapes heap state who src cell own reads holds within = record {
  held = λ holder word. refused (holder ∷ []) (one_holder holder word);
  free = λ word. refused [] (no_holder word) ∙ alone (refuse_if (nat_le claims_most (length (state.claims who))) ClaimsFull);
}
  where
    alone : (refusal : Option Refusal) → first_of (refusal ∷ []) ≡ refusal
    alone None = refl
    alone (Some refusal) = refl

    refused : (holders : List ℕ) → holders_of layout state cell ≡ holders →
        refusal_at (state.registers who src) src (λ c. first_of (held_by (holders_of layout state c)
        ∷ refuse_if (nat_le claims_most (length (state.claims who))) ClaimsFull ∷ []))
        ≡ first_of (held_by holders ∷ refuse_if (nat_le claims_most (length (state.claims who))) ClaimsFull ∷ [])
    refused holders are =
        ap (λ (value : Val). refusal_at value src (λ c. first_of (held_by (holders_of layout state c)
        ∷ refuse_if (nat_le claims_most (length (state.claims who))) ClaimsFull ∷ []))) holds
        ∙ ap (λ (all : List ℕ). first_of (held_by all
        ∷ refuse_if (nat_le claims_most (length (state.claims who))) ClaimsFull ∷ [])) are

    one_holder : (holder : ℕ) → heap ClaimRegion cell ≡ claim_word (Some holder) → holders_of layout state cell ≡ holder ∷ []
    one_holder holder word =
        let has = (reads.parts.claims.named cell holder within).0 word in
        numbers_where-one (λ one. is_among (state.claims one) cell) layout.mutators holder (of_layout holder has)
        (among_from_contains (state.claims holder) cell has)
        (λ other below among. own.one_claims other holder cell (contains_from_among (state.claims other) cell among) has)
      where
        of_layout : (holder : ℕ) → Contains (state.claims holder) cell → holder < layout.mutators
        of_layout holder has = elim (cases_lt holder layout.mutators) [
          | inl inside ↦ inside
          | inr past ↦ absurd (
              let none = subst (λ (claims : List ℕ). is_among claims cell ≡ true) (own.of_mutators holder past)
              (among_from_contains (state.claims holder) cell has) in cc)
        ]

    no_holder : heap ClaimRegion cell ≡ claim_word None → holders_of layout state cell ≡ []
    no_holder word = numbers_where-none (λ one. is_among (state.claims one) cell) layout.mutators
        (λ one below. false_from_ne_true (is_among (state.claims one) cell)
        (λ among. none-some one (same_from_optional_word None (Some one) (sym word
        ∙ (reads.parts.claims.named cell one within).1 (contains_from_among (state.claims one) cell among)))))
