-- A party is taken out of one of several handles, and another one put back.
use Rattle.std.proofs.Common.{ℕ, ◌≡◌, ◌≢◌, ◌<◌, ◌≤◌, ◌+◌, List, sym, ap, subst, ◌∙◌, arith, below_more, get_or, get_or-set_other, get_or-set_same, length, set}
use Rattle.std.proofs.lemmas.List.{get_or-map, length-map, map-set}
use Rattle.std.specs.Prelude.{None, Option}
use Rattle.tide_c.specs.Handles.{values}
use Rattle.tide_c.specs.declared.handle.Handle.{Handle}
use Rattle.tide_c.specs.declared.party.Party.{Party}

abbrev behind : List Handle → ℕ → Option Party
behind handles at = get_or (values handles) at None

-- behind the others is what was there
others_stay : (now : List Handle) (at i : ℕ) (h : Handle) → i ≢ at → behind (set now at h) i ≡ behind now i
others_stay now at i h other = ap (λ (vs : List (Option Party)). get_or vs i None) (map-set (λ (one : Handle). one.value) now at h)
    ∙ get_or-set_other (values now) at i h.value None other

-- behind this one is what was put there
this_is_put : (now : List Handle) (at : ℕ) (h : Handle) → at < length now → behind (set now at h) at ≡ h.value
this_is_put now at h low = ap (λ (vs : List (Option Party)). get_or vs at None) (map-set (λ (one : Handle). one.value) now at h)
    ∙ get_or-set_same (values now) at h.value None (subst (λ (n : ℕ). at < n) (sym (length-map now (λ (one : Handle). one.value))) low)

-- a relation that holds of all below, and of this one, holds of one more
pub one_more : (R : Option Party → Option Party → Type 0) (old now : List Handle) (at : ℕ) (h new : Handle) → at < length now →
    h ≡ get_or now at h → R h.value new.value →
    ((i : ℕ) → i < at → R (behind old i) (behind now i)) →
    ((i : ℕ) → at ≤ i → behind now i ≡ behind old i) →
    (i : ℕ) → i < at + 1 → R (behind old i) (behind (set now at new) i)
one_more R old now at h new low is holds below later =
    below_more _ _
    (λ i less. let other : i ≢ at = omega (arith, less) in
    subst (R (behind old i)) (sym (others_stay now at i new other)) (below i less))
    (let same : at ≤ at = omega arith in
    subst (R (behind old at)) (sym (this_is_put now at new low))
    (subst (λ (value : Option Party). R value new.value)
    (ap (λ (one : Handle). one.value) is ∙ sym (get_or-map (λ (one : Handle). one.value) now at h None low) ∙ later at same) holds))

-- and what is later stays
pub later_stays : (old now : List Handle) (at : ℕ) (new : Handle) → ((i : ℕ) → at ≤ i → behind now i ≡ behind old i) →
    (i : ℕ) → at + 1 ≤ i → behind (set now at new) i ≡ behind old i
later_stays old now at new later i less =
    let other : i ≢ at = omega (arith, less) in let more : at ≤ i = omega (arith, less) in
    others_stay now at i new other ∙ later i more
