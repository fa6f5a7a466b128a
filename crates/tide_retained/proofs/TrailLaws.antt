-- The way to a cell, taken in parts.
use Rattle.std.proofs.Common.{ℕ, zero, suc, ◌≡◌, ◌+◌, ◌-◌, ◌<◌, ◌≤◌, List, [], ◌∷◌, length, Option, None, Some, refl, sym, ap, ◌∙◌, subst, inl, inr, arith, zero-add, length-append, get_or, get_or-set_same, get_or-set_other}
use Rattle.std.specs.Prelude.{slice_set, slice_index_or}
use Rattle.std.proofs.lemmas.Bool.{cases_eq, cases_lt}
use Rattle.std.proofs.lemmas.List.{get_or_append_left, get_or_default, get_or_past, get_or_push}
use Rattle.tide_retained.specs.declared.contents.Contents.{Contents}
use Rattle.tide_retained.specs.declared.search.Found.{Found}
use Rattle.tide_retained.specs.Searching.{IsPlaced, by_root, by_step, distance_in, found_in}
use Rattle.tide_retained.specs.Trail.{above, distance_of, parent_from, parent_in, trail, AreOnWay, AreSkips, AreUpFrom, IsAbove, IsWay}

-- the way has as many cells behind the first as steps
pub trail-length : (found : List (Option Found)) (n cell : ℕ) → length (trail found n cell) ≡ n
unfolding trail
trail-length found zero cell = refl
trail-length found (suc n) cell =
    let rest = trail-length found n (parent_in found cell) in
    let more = length-append (trail found n (parent_in found cell)) (cell ∷ []) in
    omega (arith, rest, more)

-- no step
pub above-none : (found : List (Option Found)) (cell : ℕ) → above found 0 cell ≡ cell
unfolding above
above-none found cell = refl

-- one step
pub above-one : (found : List (Option Found)) (cell : ℕ) → above found 1 cell ≡ parent_in found cell
unfolding above
above-one found cell = refl

-- some steps, and then more
pub above-add : (found : List (Option Found)) (m n cell : ℕ) → above found (m + n) cell ≡ above found n (above found m cell)
unfolding above
above-add found zero n cell = ap (λ (k : ℕ). above found k cell) (zero-add n)
above-add found (suc m) n cell =
    let more : suc m + n ≡ suc (m + n) = omega arith in
    ap (λ (k : ℕ). above found k cell) more ∙ above-add found m n (parent_in found cell)

-- so many steps before a cell it is so much less far
pub distance-above : (found : List (Option Found)) → IsWay found → (n cell : ℕ) → n ≤ distance_of found cell → distance_of found (above found n cell) + n ≡ distance_of found cell
unfolding above
distance-above found way zero cell few = omega arith
distance-above found way (suc n) cell few =
    let nearer = way.nearer cell (omega (arith, few)) in
    let rest = distance-above found way n (parent_in found cell) (omega (arith, few, nearer)) in
    omega (arith, rest, nearer)

-- the parent stands on the way
pub IsAbove-parent : (found : List (Option Found)) → IsWay found → (cell : ℕ) → IsAbove found cell (parent_in found cell)
IsAbove-parent found way cell = elim (cases_lt 0 (distance_of found cell)) [
  | inl far ↦ (1, far, (λ _. omega arith), above-one found cell)
  | inr here ↦ (0, omega arith, (λ far. omega (arith, far, here)), above-none found cell ∙ sym (way.start cell (omega (arith, here))))
]

-- what stands on the way to the parent stands on the way to the cell
pub IsAbove-far : (found : List (Option Found)) → IsWay found → (cell skip farther : ℕ) → 0 < distance_of found cell → IsAbove found (parent_in found cell) skip → IsAbove found skip farther → IsAbove found cell farther
IsAbove-far found way cell skip farther far (m, few, _, at) (n, fewer, _, later) =
    let nearer = way.nearer cell far in
    let down = distance-above found way m (parent_in found cell) few in
    let same : distance_of found (above found m (parent_in found cell)) ≡ distance_of found skip = ap (distance_of found) at in (
      1 + (m + n),
      omega (arith, nearer, down, same, fewer),
      (λ _. omega arith),
      above-add found 1 (m + n) cell ∙ ap (above found (m + n)) (above-one found cell) ∙ above-add found m n (parent_in found cell) ∙ ap (above found n) at ∙ later,
    )

-- one skip is exchanged
pub AreSkips-set : (found : List (Option Found)) (skips : List ℕ) (cell skip : ℕ) → AreSkips found skips → cell < length skips → IsAbove found cell skip → AreSkips found (slice_set skips cell skip)
AreSkips-set found skips cell skip are within is other = elim (cases_eq other cell) [
  | inl same ↦ subst (λ (c : ℕ). IsAbove found c (slice_index_or (slice_set skips cell skip) c c)) (sym same)
      (subst (IsAbove found cell) (sym (get_or-set_same skips cell skip cell within)) is)
  | inr apart ↦ subst (IsAbove found other) (sym (get_or-set_other skips cell other skip other apart)) (are other)
]

-- the parents are skips
pub AreSkips-parents : (found : List (Option Found)) (parents : List ℕ) → IsWay found → length parents ≡ length found → ((cell : ℕ) → cell < length parents → get_or parents cell 0 ≡ parent_in found cell) →
    AreSkips found parents
AreSkips-parents found parents way counted are cell = elim (cases_lt cell (length parents)) [
  | inl within ↦ subst (IsAbove found cell) (sym (get_or_default parents cell cell 0 within ∙ are cell within)) (IsAbove-parent found way cell)
  | inr past ↦
      let none = get_or_past found cell None (omega (arith, past, counted)) in
      let own = ap (λ (o : Option Found). parent_from o cell) none in
      subst (IsAbove found cell) (own ∙ sym (get_or_past parents cell cell past)) (IsAbove-parent found way cell)
]

-- how cells were found is a way
pub way_found : (contents : Contents) (found : List (Option Found)) → ((cell : ℕ) (place : Found) → found_in found cell ≡ Some place → IsPlaced contents found cell place) → IsWay found
way_found contents found placed = record {
  start = λ cell. look_start cell (found_in found cell) refl;
  nearer = λ cell. look_nearer cell (found_in found cell) refl;
}
  where
    look_start : (cell : ℕ) (o : Option Found) → found_in found cell ≡ o → distance_in o ≡ 0 → parent_from o cell ≡ cell
    look_start cell None at none = refl
    look_start cell (Some place) at none = elim (placed cell place at) [
      | by_root start own held ↦ own
      | by_step before there further root step ↦ absurd (omega (arith, further, none))
    ]

    look_nearer : (cell : ℕ) (o : Option Found) → found_in found cell ≡ o → 0 < distance_in o → distance_in o ≡ distance_of found (parent_from o cell) + 1
    look_nearer cell None at far = absurd (omega (arith, far))
    look_nearer cell (Some place) at far = elim (placed cell place at) [
      | by_root start own held ↦ absurd (omega (arith, start, far))
      | by_step before there further root step ↦ (let same : distance_of found place.parent ≡ before.distance = ap distance_in there in omega (arith, further, same))
    ]

-- which cell stands where on the way
pub way_at : (found : List (Option Found)) (n cell k : ℕ) → k ≤ n → get_or (above found n cell ∷ trail found n cell) k 0 ≡ above found (n - k) cell
unfolding above trail
way_at found zero cell k few = let none : k ≡ 0 = omega (arith, few) in ap (λ (i : ℕ). get_or (cell ∷ []) i 0) none ∙ sym (ap (λ (i : ℕ). above found (0 - i) cell) none)
way_at found (suc n) cell k few =
    let way = above found n (parent_in found cell) ∷ trail found n (parent_in found cell) in
    let counted = trail-length found n (parent_in found cell) in
    elim (cases_lt k (suc n)) [
      | inl early ↦
          let less : suc n - k ≡ suc (n - k) = omega (arith, early) in
          get_or_append_left way (cell ∷ []) 0 k (omega (arith, early, counted)) ∙ way_at found n (parent_in found cell) k (omega (arith, early))
          ∙ sym (ap (λ (i : ℕ). above found i cell) less)
      | inr late ↦
          let last : k ≡ suc n = omega (arith, few, late) in
          let none : suc n - k ≡ 0 = omega (arith, last) in
          get_or_push way cell 0 k (omega (arith, last, counted)) ∙ sym (ap (λ (i : ℕ). above found i cell) none)
    ]

-- the way from a distance on was noted to its end
pub on_way_to_end : (found : List (Option Found)) (cell distance steps : ℕ) (cells : List ℕ) → distance ≤ distance_of found cell → steps ≡ distance_of found cell - distance →
    AreUpFrom found cell (steps + 1) cells → AreOnWay found cell distance cells
on_way_to_end found cell distance steps cells begun is up k noted within =
    let same : steps + 1 - 1 - k ≡ distance_of found cell - (distance + k) = omega (arith, is) in
    up k (omega (arith, is, within)) ∙ ap (λ (n : ℕ). above found n cell) same

-- or as many of its cells as there was room for
pub on_way_in_room : (found : List (Option Found)) (cell distance last room : ℕ) (cells : List ℕ) → length cells ≡ room → 0 < room → distance + (room - 1) ≤ distance_of found cell →
    last ≡ above found (distance_of found cell - (distance + (room - 1))) cell → AreUpFrom found last room cells → AreOnWay found cell distance cells
on_way_in_room found cell distance last room cells counted some few is up k noted within =
    let behind = distance_of found cell - (distance + (room - 1)) in
    let same : behind + (room - 1 - k) ≡ distance_of found cell - (distance + k) = omega (arith, few, counted, noted, some) in
    up k (omega (arith, counted, noted)) ∙ ap (above found (room - 1 - k)) is ∙ sym (above-add found behind (room - 1 - k) cell) ∙ ap (λ (n : ℕ). above found n cell) same
