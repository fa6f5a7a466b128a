-- A new table meets the rule: nothing lies there, and a ticket is due everywhere.
use Rattle.std.proofs.Common.{ℕ, zero, suc, ◌≡◌, ◌<◌, Bool, false, arith, refl, sym, ◌∙◌, ap, subst, List, [], ◌∷◌, length, map, replicate, inl, inr, true≢false}
use Rattle.std.proofs.lemmas.List.{length-map, length-replicate}
use Rattle.std.specs.Prelude.{slice_index}
use lib.ListN.{get_elem?}
use mathlib.Core.Option.{Option, some, some-injective, some-ne-none}
use Rattle.atomic_table.specs.Table.{opening}
use Rattle.tide_hands.specs.declared.parcel.Parcel.{Parcel}
use Rattle.tide_hands.specs.declared.parcel.Parcel.TheVariants.{Nothing}
use Rattle.tide_hands.specs.declared.view.HandView.{HandView}
use Rattle.tide_hands.specs.Among.{Among, places_below}
use Rattle.tide_hands.specs.Rule.{is_end, keeper_view, lying, SeatOk, Rule}

module _ {T N I : Type 0} (ticket_ok : I → ℕ → T → Type 0) (note_ok : I → ℕ → ℕ → N → Bool → Type 0) (name : I) (count : ℕ) where
  abbrev Opened : List ℕ → List (Parcel T N) → Type 0
  Opened words parcels = Rule ticket_ok note_ok name count (opening words parcels (keeper_view name count))

  opening_stands : (words : List ℕ) (parcels : List (Parcel T N)) → length words ≡ count → length parcels ≡ count →
      ((k : ℕ) → slice_index words k ≡ 0) →
      ((k : ℕ) → k < count → get_elem? (map some parcels) k ≡ some (some Nothing)) → Opened words parcels
  opening_stands words parcels long_words long_parcels zeros nothing = record {
    seats = λ p. 0;
    next = 0;
    over = false;
    taken = λ p. 0;
    none = λ p behind. refl;
    words = long_words;
    homes = length-map parcels some ∙ long_parcels;
    each = first;
    place = λ q in_q. inl record { parcel = Nothing; at = nothing q in_q; content = inl (zeros q) };
    ended = λ q in_q is. absurd (true≢false (sym is ∙ ap is_end (zeros q)));
  }
    where
      none_out : (q : ℕ) → 0 ≡ suc q → ⊥
      none_out q is = omega (arith, is)

      below_of : (n q : ℕ) → Among q (places_below n) → q < n
      below_of zero q is = absurd is
      below_of (suc n) q (inl same) = omega (arith, same)
      below_of (suc n) q (inr is) = let below = below_of n q is in omega (arith, below)

      first : (seat : ℕ) (view : HandView I) → get_elem? (keeper_view name count ∷ []) seat ≡ some view →
          SeatOk ticket_ok note_ok name count 0 false (λ p. 0) (λ p. 0) words seat view
      first zero view is = subst (λ (v : HandView I). SeatOk ticket_ok note_ok name count 0 false (λ p. 0) (λ p. 0) words 0 v)
          (some-injective (keeper_view name count) view is) record {
            named = refl;
            keeper = λ k. (refl, refl, refl);
            member = λ k. absurd (true≢false k);
            free = λ k q is'. let below = below_of count q is' in (below, zeros q);
            posted = λ k q. let none = ap lying (zeros q) in omega (arith, none);
            took = λ k. absurd (true≢false k);
            found = λ q is'. absurd (none_out q is');
            heard = λ h. absurd (true≢false (sym h));
            own = λ q is'. absurd (none_out q is');
            its = λ q k is'. absurd (none_out q is');
            due = λ k. absurd (true≢false k);
          }
      first (suc seat) view is = absurd (some-ne-none view (sym is))

  -- so it stands where all words are 0 and nothing lies anywhere
  pub opening_of : (words : List ℕ) (parcels : List (Parcel T N)) → words ≡ replicate count 0 →
      parcels ≡ replicate count Nothing → Opened words parcels
  opening_of words parcels is_words is_parcels = opening_stands words parcels
      (ap (λ (l : List ℕ). length l) is_words ∙ length-replicate count 0)
      (ap (λ (l : List (Parcel T N)). length l) is_parcels ∙ length-replicate count Nothing)
      (λ k. ap (λ (l : List ℕ). slice_index l k) is_words ∙ zero_at count k)
      (λ k below. ap (λ (l : List (Parcel T N)). get_elem? (map some l) k) is_parcels ∙ there count k below)
    where
      zero_at : (n k : ℕ) → slice_index (replicate n 0) k ≡ 0
      zero_at zero k = refl
      zero_at (suc n) zero = refl
      zero_at (suc n) (suc k) = zero_at n k

      there : (n k : ℕ) → k < n →
          get_elem? {A = Option (Parcel T N)} (map some (replicate n Nothing)) k ≡ some (some Nothing)
      there zero k below = absurd (omega (arith, below))
      there (suc n) zero below = refl
      there (suc n) (suc k) below = there n k (omega (arith, below))
