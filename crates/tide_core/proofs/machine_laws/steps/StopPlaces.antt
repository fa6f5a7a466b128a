-- Each participant has a word of its own in Stopped.
use Rattle.std.proofs.Common.{ℕ, ◌≡◌, ◌≢◌, ◌+◌, ◌<◌, ◌≤◌, ◌⊎◌, sym, ◌∙◌, ap, arith, Bool, false, inl, inr}
use Rattle.std.proofs.lemmas.Bool.{cases_Bool}
use Rattle.std.proofs.lemmas.Bool.Decides.{nat_tests}
use Rattle.std.specs.Prelude.{◌-◌, nat_lt, if◌then◌else◌}
use Rattle.tide_words.specs.tide_layout.Region.{size_of}
use Rattle.tide_words.specs.tide_layout.declared.region.Region.TheVariants as region
use Rattle.tide_core.specs.machine.Kind.{index_of_stopped}
use Rattle.tide_core.specs.machine.World.{IsParty, first_visitor}
use Rattle.tide_model.specs.Layout.{Layout}

-- a mutator's word is that of its number, and a visitor's comes after those of all mutators
abbrev StandsIn : Layout → ℕ → Type 0
StandsIn layout p = ((p < layout.mutators) × (index_of_stopped layout p ≡ p))
    ⊎ ((layout.mutators ≤ p) × (first_visitor ≤ p) × (p < first_visitor + layout.visitors)
    × (index_of_stopped layout p ≡ layout.mutators + (p - first_visitor)))

stands_in : (layout : Layout) (p : ℕ) → IsParty layout p → StandsIn layout p
stands_in layout p party = elim (cases_Bool (nat_lt p layout.mutators)) [
  | inl few ↦ inl (
    grind (arith, nat_tests),
    ap {B = ℕ} (λ (b : Bool). if b then p else layout.mutators + (p - first_visitor)) few,
  )
  | inr more ↦ inr (visitor more party)
]
  where
    beyond : nat_lt p layout.mutators ≡ false → layout.mutators ≤ p
    beyond more = (let over : ¬ (p < layout.mutators) = (λ h. grind (arith, nat_tests)) in omega (arith, over))

    visitor : nat_lt p layout.mutators ≡ false →
        (p < layout.mutators) ⊎ ((first_visitor ≤ p) × (p < first_visitor + layout.visitors)) →
        (layout.mutators ≤ p) × (first_visitor ≤ p) × (p < first_visitor + layout.visitors)
        × (index_of_stopped layout p ≡ layout.mutators + (p - first_visitor))
    visitor more (inl few) = absurd (let past = beyond more in omega (arith, few, past))
    visitor more (inr is) = (
      beyond more,
      is.0,
      is.1,
      ap {B = ℕ} (λ (b : Bool). if b then p else layout.mutators + (p - first_visitor)) more,
    )

-- it is one of the region's
pub stop_within : (layout : Layout) (p : ℕ) → IsParty layout p →
    index_of_stopped layout p < size_of layout region.Stopped
stop_within layout p party = elim (stands_in layout p party) [
  | inl is ↦ (let at = is.1 in let few = is.0 in omega (arith, at, few))
  | inr is ↦ (let at = is.3 in let from = is.1 in let below = is.2 in omega (arith, at, from, below))
]

-- and no other's
pub stop_apart : (layout : Layout) (p q : ℕ) → IsParty layout p → IsParty layout q → p ≢ q →
    index_of_stopped layout p ≢ index_of_stopped layout q
stop_apart layout p q one other apart same = elim (stands_in layout p one) [
  | inl a ↦ elim (stands_in layout q other) [
    | inl b ↦ apart (sym a.1 ∙ same ∙ b.1)
    | inr b ↦ (let at = sym a.1 ∙ same ∙ b.3 in let few = a.0 in omega (arith, at, few))
  ]
  | inr a ↦ elim (stands_in layout q other) [
    | inl b ↦ (let at = sym a.3 ∙ same ∙ b.1 in let few = b.0 in omega (arith, at, few))
    | inr b ↦ apart (let at = sym a.3 ∙ same ∙ b.3 in let from = a.1 in let since = b.1 in omega (arith, at, from, since))
  ]
]
