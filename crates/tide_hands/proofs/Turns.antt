-- Whose turn it is at a place: one seat's.
use Rattle.std.proofs.Common.{ℕ, ◌≡◌, Bool, true, false, arith, cond, refl, sym, ◌∙◌, ap, inl, inr}
use Rattle.std.proofs.lemmas.Bool.{eqb-true, ne_eqb, or_cases}
use Rattle.std.specs.Prelude.{slice_index, ◌==◌, ◌||◌}
use lib.ListN.{get_elem?}
use mathlib.Core.Option.{some}
use Rattle.atomic_table.specs.Table.{State}
use Rattle.tide_hands.specs.declared.parcel.Parcel.{Parcel}
use Rattle.tide_hands.specs.declared.view.HandView.{HandView}
use Rattle.tide_hands.specs.Rule.{Rule, is_end, is_keepers, is_turn}

pub or_false : (a : Bool) → (a || false) ≡ a
or_false true = refl
or_false false = refl

one_side : (k l w : Bool) → cond k w (cond w false true) ≡ true → cond l w (cond w false true) ≡ true → k ≡ l
one_side true true w a b = refl
one_side false false w a b = refl
one_side true false true a b = sym b
one_side true false false a b = sym a
one_side false true true a b = a
one_side false true false a b = b

-- at the keeper's turn nothing has ended
keepers_go_on : (word : ℕ) → is_keepers word ≡ true → is_end word ≡ false
keepers_go_on word h = elim (or_cases (word == 0) (word == 3) h) [
  | inl first ↦ ne_eqb word 4 (λ e. let zero = eqb-true word 0 first in omega (arith, e, zero))
  | inr other ↦ ne_eqb word 4 (λ e. let three = eqb-true word 3 other in omega (arith, e, three))
]

-- a keeper's turn is one of a word that tells no end
pub keeper_turn : {I : Type 0} (v : HandView I) (word : ℕ) → v.keeper ≡ true → is_turn v word ≡ true → is_end word ≡ false
keeper_turn v word k turn = keepers_go_on word
    (sym (ap (λ (b : Bool). cond b (is_keepers word) (cond (is_keepers word) false true)) k) ∙ turn)

module _ {T N I : Type 0} (ticket_ok : I → ℕ → T → Type 0) (note_ok : I → ℕ → ℕ → N → Bool → Type 0) (name : I) (count : ℕ) where
  -- two seats whose turn it is at one place are one
  pub same_seat : (s : State (Parcel T N) (HandView I)) → Rule ticket_ok note_ok name count s → (a b place : ℕ)
      (u v : HandView I) → get_elem? s.views a ≡ some u → get_elem? s.views b ≡ some v →
      (u.keeper ≡ false → place ≡ u.place) → (v.keeper ≡ false → place ≡ v.place) →
      is_turn u (slice_index s.words place) ≡ true → is_turn v (slice_index s.words place) ≡ true → a ≡ b
  same_seat s r a b place u v is_u is_v own_u own_v turn_u turn_v = side u.keeper refl
    where
      both : u.keeper ≡ v.keeper
      both = one_side u.keeper v.keeper (is_keepers (slice_index s.words place)) turn_u turn_v

      side : (k : Bool) → u.keeper ≡ k → a ≡ b
      side true k = ((r.each a u is_u).keeper k).0 ∙ sym ((r.each b v is_v).keeper (sym both ∙ k)).0
      side false k = sym ((r.each a u is_u).member k).2 ∙ ap r.seats (sym (own_u k) ∙ own_v (sym both ∙ k))
          ∙ ((r.each b v is_v).member (sym both ∙ k)).2
