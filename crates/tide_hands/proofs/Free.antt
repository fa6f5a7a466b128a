-- At which places the keeper knows that a ticket is due, once a word was stored at one.
use Rattle.std.proofs.Common.{ℕ, suc, pred, ◌≡◌, ◌≢◌, ◌==◌, Bool, true, false, not, refl, sym, ◌∙◌, ap, subst, List, [], ◌∷◌, inl, inr}
use Rattle.std.proofs.lemmas.Bool.{eqb-false, eqb-true}
use Rattle.std.specs.Prelude.{MatchBool, if◌then◌else◌}
use Rattle.atomic_table.specs.Table.{Me}
use Rattle.tide_hands.specs.declared.parcel.Parcel.{Parcel}
use Rattle.tide_hands.specs.declared.view.HandView.{HandView}
use Rattle.tide_hands.specs.Among.{Among, without}
use Rattle.tide_hands.specs.Rule.{TookSlot, is_keepers, is_turn, resting}

-- the places among some without one
pub among_without : (place other : ℕ) (places : List ℕ) → Among place (without other places) →
    (place ≢ other) × Among place places
among_without place other [] is = absurd is
among_without place other (first ∷ places) is = by (λ there. among_without place other places there) (first == other) refl is
  where
    by : (Among place (without other places) → (place ≢ other) × Among place places) → (b : Bool) → (first == other) ≡ b →
        Among place (if not b then first ∷ without other places else without other places) →
        (place ≢ other) × Among place (first ∷ places)
    by more true same there = let rest = more there in (rest.0, inr rest.1)
    by more false apart (inl here) = (λ e. eqb-false first other apart (sym here ∙ e), inl here)
    by more false apart (inr there) = let rest = more there in (rest.0, inr rest.1)

-- another place stays among them
pub among_others : (place other : ℕ) (places : List ℕ) → place ≢ other → Among place places → Among place (without other places)
among_others place other [] apart is = is
among_others place other (first ∷ places) apart is = by (λ there. among_others place other places apart there) (first == other) refl is
  where
    by : (Among place places → Among place (without other places)) → (b : Bool) → (first == other) ≡ b → Among place (first ∷ places) →
        Among place (if not b then first ∷ without other places else without other places)
    by more true same (inl here) = absurd (apart (here ∙ eqb-true first other same))
    by more true same (inr there) = more there
    by more false differs (inl here) = inl here
    by more false differs (inr there) = inr (more there)

module _ {I : Type 0} where
  -- where a ticket was due is known, whatever was stored at another place
  pub free_others : (v : HandView I) (place word q : ℕ) → v.out ≡ suc place → q ≢ place → Among q v.free →
      Among q (resting word v).free
  free_others v place word q out apart is = by (word == 0)
    where
      by : (b : Bool) → Among q (if b then pred v.out ∷ v.free else without (pred v.out) v.free)
      by true = inr is
      by false = among_others q (pred v.out) v.free (λ e. apart (e ∙ ap pred out)) is

  -- and so is where one is due now
  pub free_here : (v : HandView I) (place : ℕ) → v.out ≡ suc place → Among place (resting 0 v).free
  free_here v place out = inl (sym (ap pred out))

module _ {T N I : Type 0} (ticket_ok : I → ℕ → T → Type 0) (note_ok : I → ℕ → ℕ → N → Bool → Type 0) (name : I) (place found : ℕ)
    (me after : Me (Parcel T N) (HandView I)) (keeps : me.0.keeper ≡ true) (turn : is_keepers found ≡ true)
    (looked : MatchBool (is_turn me.0 found) (TookSlot ticket_ok note_ok name place found me after) (after ≡ me)) where
  -- at its turn the keeper took the slot
  took : TookSlot ticket_ok note_ok name place found me after
  took = subst (λ (b : Bool). MatchBool b (TookSlot ticket_ok note_ok name place found me after) (after ≡ me))
      (ap (λ (k : Bool). if k then is_keepers found else (if is_keepers found then false else true)) keeps ∙ turn) looked

  out_is : after.0.out ≡ suc place
  out_is = ap (λ (m : Me (Parcel T N) (HandView I)). m.0.out) took.is

  free_is : after.0.free ≡ me.0.free
  free_is = ap (λ (m : Me (Parcel T N) (HandView I)). m.0.free) took.is

  -- and knows of other places what it knew, once it has given the slot home
  pub free_given : (now : Me (Parcel T N) (HandView I)) (word : ℕ) → now ≡ (resting word after.0, []) → (q : ℕ) → q ≢ place →
      Among q me.0.free → Among q now.0.free
  free_given now word gave q apart is = subst (λ (m : Me (Parcel T N) (HandView I)). Among q m.0.free) (sym gave)
      (free_others after.0 place word q out_is apart (subst (Among q) (sym free_is) is))

  -- where it left a ticket due it knows so, and of all other places what it knew
  pub free_due : (now : Me (Parcel T N) (HandView I)) → now ≡ (resting 0 after.0, []) → Among place now.0.free
  free_due now gave = subst (λ (m : Me (Parcel T N) (HandView I)). Among place m.0.free) (sym gave) (free_here after.0 place out_is)

  pub free_still : (now : Me (Parcel T N) (HandView I)) → now ≡ (resting 0 after.0, []) → (q : ℕ) → Among q me.0.free →
      Among q now.0.free
  free_still now gave q is = subst (λ (m : Me (Parcel T N) (HandView I)). Among q m.0.free) (sym gave)
      (inr (subst (Among q) (sym free_is) is))
