-- Items under labels.
use Rattle.std.specs.Prelude.{ℕ, ◌≡◌, ◌≢◌, ◌↔◌, ◌==◌, List, [], ◌∷◌, Contains, if◌then◌else◌}
use Rattle.std.specs.List.{flat_map, range_with_len}
use Rattle.tide_retained.specs.declared.contents.Contents.{Contents}
use Rattle.tide_retained.specs.declared.contents.Keyed.{Keyed}
use Rattle.tide_retained.specs.declared.index.Entry.{Entry}
use Rattle.tide_retained.specs.Contents.{group_of, held_at, pairs_of}

-- an item under a label
abbrev pub entry : ℕ → ℕ → Entry
entry label item = record { label = label; item = item }

-- the items of some entries
abbrev pub items_of : List Entry → List ℕ
items_of entries = flat_map (λ entry. entry.item ∷ []) entries

-- the numbers from 0 on
abbrev pub up_to : ℕ → List ℕ
up_to n = range_with_len 0 n

-- these are the entries under the label
abbrev pub AreUnder : List Entry → ℕ → List Entry → Type 0
AreUnder entries label some = (entry : Entry) → Contains some entry ↔ (Contains entries entry × (entry.label ≡ label))

-- a cell under its group, if it is in one
abbrev pub group_entries : Contents → ℕ → List Entry
group_entries contents cell = if group_of (held_at contents cell) == 0 then [] else entry (group_of (held_at contents cell)) cell ∷ []

-- a table under the key of each of its pairs
abbrev pub key_entries : Contents → ℕ → List Entry
key_entries contents table = flat_map (λ pair. entry pair.key table ∷ []) (pairs_of (held_at contents table))

-- the cells that are in a group stand under it, and no others
pub record HasGroups (contents : Contents) (entries : List Entry) : Type 0 where
  pub stands : (cell : ℕ) → group_of (held_at contents cell) ≢ 0 → Contains entries (entry (group_of (held_at contents cell)) cell)
  pub only : (group cell : ℕ) → Contains entries (entry group cell) → (group_of (held_at contents cell) ≡ group) × (group ≢ 0)

-- each table stands under the keys of its pairs
abbrev pub HasKeys : Contents → List Entry → Type 0
HasKeys contents entries = (table : ℕ) (pair : Keyed) → Contains (pairs_of (held_at contents table)) pair → Contains entries (entry pair.key table)
