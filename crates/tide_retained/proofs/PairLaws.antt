-- Pairs whose keys rise, with one more among them.
use Rattle.std.proofs.Common.{ℕ, ◌≡◌, ◌≢◌, ◌+◌, ◌-◌, ◌<◌, ◌≤◌, true, false, List, ◌∷◌, length, take, drop, sym, ap, subst, inl, inr, arith, get_or, take-append-drop}
use Rattle.std.specs.Prelude.{◌⊎◌, ◌↔◌, Contains, nat_lt}
use Rattle.std.specs.List.{insert}
use Rattle.std.specs.List.Sorted.{IsNonDecreasingBy, IsPartitionPoint}
use Rattle.std.proofs.lemmas.Bool.{cases_eq, cases_lt, ltb-true, ltb-false}
use Rattle.std.proofs.lemmas.List.{get_or_default}
use Rattle.std.proofs.lemmas.List.Edits.{length-insert, get_or-insert_below, get_or-insert_at, get_or-insert_above}
use Rattle.std.proofs.lemmas.List.Elements.{Contains-append_left, Contains-append_right, Contains-append_cases}
use Rattle.tide_retained.specs.declared.contents.Keyed.{Keyed}
use Rattle.tide_retained.specs.Holding.{AreRising, HasKey}
use Rattle.tide_retained.proofs.ListLaws.{contains_cases, contains_first, contains_later}

-- it is there then, beside those that were
pub insert_contains : {X : Type 0} (xs : List X) (i : ℕ) (x y : X) → Contains (insert xs i x) y ↔ (Contains xs y ⊎ (y ≡ x))
insert_contains xs i x y = (
  (λ at. elim (Contains-append_cases (take i xs) (x ∷ drop i xs) y at) [
    | inl early ↦ inl (subst (λ l. Contains l y) (take-append-drop i xs) (Contains-append_left (take i xs) (drop i xs) y early))
    | inr here ↦ elim (contains_cases x (drop i xs) y here) [
      | inl same ↦ inr (sym same)
      | inr late ↦ inl (subst (λ l. Contains l y) (take-append-drop i xs) (Contains-append_right (take i xs) (drop i xs) y late))
    ]
  ]),
  (λ given. elim given [
    | inl old ↦ elim (Contains-append_cases (take i xs) (drop i xs) y (subst (λ l. Contains l y) (sym (take-append-drop i xs)) old)) [
      | inl early ↦ Contains-append_left (take i xs) (x ∷ drop i xs) y early
      | inr late ↦ Contains-append_right (take i xs) (x ∷ drop i xs) y (contains_later x (drop i xs) y late)
    ]
    | inr same ↦ subst (Contains (insert xs i x)) (sym same) (Contains-append_right (take i xs) (x ∷ drop i xs) x (contains_first x (drop i xs)))
  ]),
)

-- keys that rise don't fall
pub rising_by_key : (pairs : List Keyed) → AreRising pairs → IsNonDecreasingBy (λ pair. pair.key) pairs
rising_by_key pairs rising i j d order within = elim (cases_eq i j) [
  | inl same ↦ (let is = ap (λ (k : ℕ). (get_or pairs k d).key) same in omega (arith, is))
  | inr other ↦ (let less = rising i j d (omega (arith, order, other)) within in omega (arith, less))
]

-- and rise still with one more between those below it and those above
pub insert_rising : (pairs : List Keyed) (pair : Keyed) (at : ℕ) → at ≤ length pairs → AreRising pairs → (HasKey pairs pair.key → ⊥) →
    IsPartitionPoint (λ (other : Keyed). nat_lt other.key pair.key ≡ true) (λ (other : Keyed). nat_lt other.key pair.key ≡ false) pairs at → AreRising (insert pairs at pair)
insert_rising pairs pair at within rising fresh point i j d order inside = elim (cases_lt j at) [
  | inl early ↦
      let one = below i (omega (arith, order, early)) in
      let other = below j early in
      let less = rising i j d order (omega (arith, early, within)) in
      omega (arith, one, other, less)
  | inr late ↦ elim (cases_lt at j) [
    | inl past ↦ elim (cases_lt i at) [
      | inl before ↦
          let one = below i before in
          let other = above j past in
          let less = rising i (j - 1) d (omega (arith, before, past)) (shorter j past inside) in
          omega (arith, one, other, less)
      | inr from ↦ elim (cases_lt at i) [
        | inl behind ↦
            let one = above i behind in
            let other = above j past in
            let less = rising (i - 1) (j - 1) d (omega (arith, order, behind)) (shorter j past inside) in
            omega (arith, one, other, less)
        | inr here ↦
            let one = ap key (let same : i ≡ at = omega (arith, from, here) in same) in
            let other = above j past in
            let more = higher (j - 1) (omega (arith, past)) (shorter j past inside) in
            omega (arith, one, own, other, more)
      ]
    ]
    | inr here ↦
        let one = below i (omega (arith, order, here)) in
        let other = ap key (let same : j ≡ at = omega (arith, late, here) in same) in
        let less = lower i (omega (arith, order, here)) in
        omega (arith, one, own, other, less)
  ]
]
  where
    -- the key at a place, now and before
    key : ℕ → ℕ
    key k = (get_or (insert pairs at pair) k d).key

    old : ℕ → ℕ
    old k = (get_or pairs k d).key

    below : (k : ℕ) → k < at → key k ≡ old k
    below k early = ap (λ (p : Keyed). p.key) (get_or-insert_below pairs at pair d k early within)

    own : key at ≡ pair.key
    own = ap (λ (p : Keyed). p.key) (get_or-insert_at pairs at pair d within)

    above : (k : ℕ) → at < k → key k ≡ old (k - 1)
    above k past =
        let next : k - 1 + 1 ≡ k = omega (arith, past) in
        subst (λ (m : ℕ). key m ≡ old (k - 1)) next (ap (λ (p : Keyed). p.key) (get_or-insert_above pairs at pair d (k - 1) (omega (arith, past)) within))

    shorter : (k : ℕ) → at < k → k < length (insert pairs at pair) → k - 1 < length pairs
    shorter k past there = let more = length-insert pairs at pair within in omega (arith, past, there, more)

    lower : (k : ℕ) → k < at → old k < pair.key
    lower k early = ltb-true (old k) pair.key (point.0 k d (omega arith) early)

    higher : (k : ℕ) → at ≤ k → k < length pairs → pair.key < old k
    higher k from there =
        let least = ltb-false (old k) pair.key (point.1 k d from there) in
        let other : old k ≢ pair.key = λ same. fresh (get_or pairs k d, (k, there, get_or_default pairs k (get_or pairs k d) d there), same) in
        elim (cases_eq (old k) pair.key) [ inl same ↦ absurd (other same) | inr apart ↦ omega (arith, least, apart) ]
