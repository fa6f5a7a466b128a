-- The entries under a label stand side by side, and all that belong there are put there.
use Rattle.std.proofs.Common.{ℕ, ◌≡◌, ◌+◌, ◌-◌, ◌<◌, ◌≤◌, true, false, List, [], ◌∷◌, length, Option, None, sym, ap, ◌∙◌, subst, inl, inr, arith, get_or, take, drop, length-drop, length-take, get_or-drop, get_or-take}
use Rattle.std.specs.Prelude.{◌⊎◌, ◌↔◌, ◌≢◌, ◌==◌, Contains, nat_lt, nat_le, if◌then◌else◌}
use Rattle.std.specs.List.{flat_map}
use Rattle.std.specs.List.Sorted.{IsPartitionPoint}
use Rattle.std.proofs.lemmas.Bool.{cases_Bool, cases_lt, eq-eqb, leb-false, leb-true, ltb-false, ltb-true, ne_eqb}
use Rattle.std.proofs.lemmas.List.{get_or_past}
use Rattle.tide_retained.specs.declared.contents.Contents.{Contents}
use Rattle.tide_retained.specs.declared.contents.Held.{Held}
use Rattle.tide_retained.specs.declared.contents.Keyed.{Keyed}
use Rattle.tide_retained.specs.declared.index.Entry.{Entry}
use Rattle.tide_retained.specs.Contents.{group_of, held_at, pairs_of}
use Rattle.tide_retained.specs.Index.{AreUnder, HasGroups, HasKeys, entry, group_entries, key_entries, up_to}
use Rattle.tide_retained.proofs.ListLaws.{nowhere, contains_first, contains_one, from_flat_map, in_flat_map, in_up_to}

-- where the tests below and up to a label part a list, the entries under it stand between
pub under_label : (entries : List Entry) (label from to : ℕ) → from ≤ length entries → to ≤ length entries →
    IsPartitionPoint (λ (e : Entry). nat_lt e.label label ≡ true) (λ (e : Entry). nat_lt e.label label ≡ false) entries from →
    IsPartitionPoint (λ (e : Entry). nat_le e.label label ≡ true) (λ (e : Entry). nat_le e.label label ≡ false) entries to →
    (from ≤ to) × AreUnder entries label (take (to - from) (drop from entries))
under_label entries label from to from_in to_in below upto = (ordered, λ e. ((λ at. out_of e at), (λ given. into e given.0 given.1)))
  where
    ordered : from ≤ to
    ordered = elim (cases_lt to from) [
      | inr is ↦ is
      | inl early ↦
          let e = get_or entries to (entry 0 0) in
          let low = ltb-true e.label label (below.0 to (entry 0 0) (omega arith) early) in
          let high = leb-false e.label label (upto.1 to (entry 0 0) (omega arith) (omega (arith, early, from_in))) in
          absurd (omega (arith, low, high))
    ]

    count : length (take (to - from) (drop from entries)) ≡ to - from
    count = (let a = length-take (to - from) (drop from entries) in let b = length-drop from entries in omega (arith, a, b, to_in))

    at_place : (k : ℕ) (d : Entry) → k < to - from → get_or (take (to - from) (drop from entries)) k d ≡ get_or entries (from + k) d
    at_place k d inside = get_or-take (to - from) (drop from entries) k d inside ∙ get_or-drop from entries k d

    out_of : (e : Entry) → Contains (take (to - from) (drop from entries)) e → Contains entries e × (e.label ≡ label)
    out_of e (k, within, is) =
        let inside : k < to - from = (let c = count in omega (arith, within, c)) in
        let there = sym (at_place k e inside) ∙ is in
        let place : from + k < length entries = omega (arith, inside, to_in) in
        let low = ltb-false (get_or entries (from + k) e).label label (below.1 (from + k) e (omega arith) place) in
        let high = leb-true (get_or entries (from + k) e).label label (upto.0 (from + k) e (omega arith) (omega (arith, inside))) in
        let same = ap (λ (x : Entry). x.label) there in
        ((from + k, place, there), omega (arith, low, high, same))

    into : (e : Entry) → Contains entries e → e.label ≡ label → Contains (take (to - from) (drop from entries)) e
    into e (i, within, is) label_is =
        let same = ap (λ (x : Entry). x.label) is in
        let after : from ≤ i = elim (cases_lt i from) [
          | inr is_after ↦ is_after
          | inl early ↦ (let low = ltb-true (get_or entries i e).label label (below.0 i e (omega arith) early) in absurd (omega (arith, low, same, label_is)))
        ] in
        let before : i < to = elim (cases_lt i to) [
          | inl is_before ↦ is_before
          | inr late ↦ (let high = leb-false (get_or entries i e).label label (upto.1 i e late within) in absurd (omega (arith, high, same, label_is)))
        ] in
        let k = i - from in
        let inside : k < to - from = omega (arith, after, before) in
        let there : from + k ≡ i = omega (arith, after) in
        (k, (let c = count in omega (arith, inside, c)), at_place k e inside ∙ ap (λ (n : ℕ). get_or entries n e) there ∙ is)

-- a cell's entry in the list of groups
group_entry : (contents : Contents) (cell : ℕ) (e : Entry) → Contains (group_entries contents cell) e → (e ≡ entry (group_of (held_at contents cell)) cell) × (group_of (held_at contents cell) ≢ 0)
group_entry contents cell e = look (cases_Bool (group == 0))
  where
    group : ℕ
    group = group_of (held_at contents cell)

    look : ((group == 0) ≡ true) ⊎ ((group == 0) ≡ false) → Contains (if group == 0 then [] else entry group cell ∷ []) e → (e ≡ entry group cell) × (group ≢ 0)
    look (inl none) at = absurd (nowhere e (subst (λ b. Contains (if b then [] else entry group cell ∷ []) e) none at))
    look (inr some) at = (
      sym (contains_one (entry group cell) e (subst (λ b. Contains (if b then [] else entry group cell ∷ []) e) some at)),
      λ zero. (let also = eq-eqb group 0 zero in absurd (cc)),
    )

-- the list of groups has each cell under its group
pub groups_listed : (contents : Contents) (entries index : List Entry) → entries ≡ flat_map (group_entries contents) (up_to (length contents.cells.items)) →
    ((e : Entry) → Contains index e ↔ Contains entries e) → HasGroups contents index
groups_listed contents entries index listed same = record {
  stands = λ cell some.
      let within : cell < length contents.cells.items = elim (cases_lt cell (length contents.cells.items)) [
        | inl inside ↦ inside
        | inr past ↦ absurd (some (ap group_of (get_or_past contents.cells.items cell None past)))
      ] in
      let group = group_of (held_at contents cell) in
      let is_none : (group == 0) ≡ false = ne_eqb group 0 some in
      let here : Contains (group_entries contents cell) (entry group cell) =
      subst (λ b. Contains (if b then [] else entry group cell ∷ []) (entry group cell)) (sym is_none) (contains_first (entry group cell) []) in
      (same (entry group cell)).1 (subst (λ l. Contains l (entry group cell)) (sym listed)
      (in_flat_map (group_entries contents) (up_to (length contents.cells.items)) cell (entry group cell) (in_up_to (length contents.cells.items) cell within) here));
  only = λ group cell at.
      let (other, among, given) = from_flat_map (group_entries contents) (up_to (length contents.cells.items)) (entry group cell)
      (subst (λ l. Contains l (entry group cell)) listed ((same (entry group cell)).0 at)) in
      let (is, some) = group_entry contents other (entry group cell) given in
      let of_item : cell ≡ other = ap (λ (e : Entry). e.item) is in
      let of_label : group ≡ group_of (held_at contents other) = ap (λ (e : Entry). e.label) is in
      (ap (λ (c : ℕ). group_of (held_at contents c)) of_item ∙ sym of_label, λ zero. some (sym of_label ∙ zero));
}

-- the list of keys has each table under the keys of its pairs
pub keys_listed : (contents : Contents) (entries index : List Entry) → entries ≡ flat_map (key_entries contents) (up_to (length contents.cells.items)) →
    ((e : Entry) → Contains index e ↔ Contains entries e) → HasKeys contents index
keys_listed contents entries index listed same table pair at =
    let within : table < length contents.cells.items = elim (cases_lt table (length contents.cells.items)) [
      | inl inside ↦ inside
      | inr past ↦ (let none = get_or_past contents.cells.items table None past in absurd (nowhere pair (subst (λ (o : Option Held). Contains (pairs_of o) pair) none at)))
    ] in
    let e = entry pair.key table in
    let here = in_flat_map (λ (p : Keyed). entry p.key table ∷ []) (pairs_of (held_at contents table)) pair e at (contains_first e []) in
    (same e).1 (subst (λ l. Contains l e) (sym listed) (in_flat_map (key_entries contents) (up_to (length contents.cells.items)) table e (in_up_to (length contents.cells.items) table within) here))
