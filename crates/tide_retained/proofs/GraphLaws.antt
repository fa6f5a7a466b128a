-- The graph of what a snapshot holds is that of the state.
use Rattle.std.proofs.Common.{ℕ, ◌≡◌, ◌<◌, List, [], length, Option, None, Some, refl, sym, ap, ◌∙◌, subst, inl, inr, arith}
use Rattle.std.specs.Prelude.{◌≢◌, Contains, slice_index}
use Rattle.std.proofs.lemmas.Bool.{cases_lt}
use Rattle.std.proofs.lemmas.List.{get_or_past}
use Rattle.std.proofs.lemmas.List.Elements.{Contains-append_left, Contains-append_right, Contains-append_cases}
use Rattle.tide_model.specs.declared.val.Val.{Val}
use Rattle.tide_model.specs.declared.val.Val.TheVariants.{Empty, Int, Cell}
use Rattle.tide_model.specs.Graph.{Graph, IsLink, IsRoot, IsTriple, IsWithin, claimed, graph_of, in_handle, in_property, in_register, in_slot, no_cell, retained_more}
use Rattle.tide_model.specs.Layout.{Layout, cell_count, class_of, slots_of}
use Rattle.tide_model.specs.State.{State, live}
use Rattle.tide_retained.specs.declared.contents.Contents.{Contents}
use Rattle.tide_retained.specs.declared.contents.Held.{Held}
use Rattle.tide_retained.specs.declared.contents.Keyed.{Keyed}
use Rattle.tide_retained.specs.declared.root.Root.TheVariants.{Register, Claim, Strong}
use Rattle.tide_retained.specs.Contents.{HasPair, cell_in, cells_in, cells_under, graph_held, group_of, held_at, links_of, pairs_of}
use Rattle.tide_retained.specs.Holding.{HoldsSame, IsHeldOf, IsSnapshotOf, keyed}
use Rattle.tide_retained.specs.Index.{up_to}
use Rattle.tide_retained.specs.Path.{IsDistanceOf, IsStep, Reaches, along_link, at_root, by_step, to_group_mate, to_value}
use Rattle.tide_retained.proofs.ListLaws.{nowhere, contains_first, contains_map, from_map, contains_one, from_flat_map, in_flat_map, in_up_to, below_up_to}

-- paths of a graph are those of a larger one
pub step_within : (one other : Graph) (source cell : ℕ) → IsWithin one other → IsStep one source cell → IsStep other source cell
step_within one other source cell within (along_link link) = along_link (within.links source cell link)
step_within one other source cell within (to_value key triple kept) =
    to_value key (within.triples source key cell triple) (retained_more one other no_cell no_cell within (λ c none. absurd none) key kept)
step_within one other source cell within (to_group_mate group_mate) = to_group_mate (within.group_mates source cell group_mate)

pub reaches_within : (one other : Graph) → IsWithin one other → (steps cell : ℕ) → Reaches one steps cell → Reaches other steps cell
reaches_within one other within steps cell (at_root root) = at_root (within.roots cell root)
reaches_within one other within steps cell (by_step {steps = before} source reaches step) =
    by_step source (reaches_within one other within before source reaches) (step_within one other source cell within step)

pub distance_within : (one other : Graph) → IsWithin one other → IsWithin other one → (cell : ℕ) (answer : Option ℕ) → IsDistanceOf one cell answer → IsDistanceOf other cell answer
distance_within one other within back cell None not = λ kept. not (retained_more other one no_cell no_cell back (λ c none. absurd none) cell kept)
distance_within one other within back cell (Some steps) is = record {
  reaches = reaches_within one other within steps cell is.reaches;
  least = λ others reaches. is.least others (reaches_within other one back others cell reaches);
}

-- a value that names the cell
value_names : (value : Val) (cell : ℕ) → Contains (cell_in value) cell → value ≡ Cell cell
value_names Empty cell at = absurd (nowhere cell at)
value_names (Int n) cell at = absurd (nowhere cell at)
value_names (Cell other) cell at = ap Cell (contains_one other cell at)

names_value : (value : Val) (cell : ℕ) → value ≡ Cell cell → Contains (cell_in value) cell
names_value value cell same = subst (λ (v : Val). Contains (cell_in v) cell) (sym same) (contains_first cell [])

-- what a held cell holds
module _ (layout : Layout) (state : State) (snapshot : Contents) (is : IsSnapshotOf layout state snapshot) where
  -- what is held is what a live cell of the state holds
  pub same_held : (cell : ℕ) (held : Held) → held_at snapshot cell ≡ Some held → HoldsSame layout cell (state.cells cell) held
  same_held cell held at = elim (cases_lt cell (cell_count layout)) [
    | inl within ↦ subst (IsHeldOf layout cell (state.cells cell)) at (is.cells cell within)
    | inr past ↦ (let none = get_or_past snapshot.cells.items cell None (let counted = is.counted in omega (arith, past, counted)) in absurd (cc))
  ]

  -- a live cell is held
  pub live_is_held : (cell : ℕ) → (state.cells cell).status ≡ live → (held : Held) × (held_at snapshot cell ≡ Some held)
  live_is_held cell alive = elim (cases_lt cell (cell_count layout)) [
    | inl within ↦ look within (held_at snapshot cell) refl
    | inr past ↦ absurd (is.past cell past alive)
  ]
    where
      look : cell < cell_count layout → (o : Option Held) → held_at snapshot cell ≡ o → (held : Held) × (held_at snapshot cell ≡ Some held)
      look within None none = absurd (subst (IsHeldOf layout cell (state.cells cell)) none (is.cells cell within) alive)
      look within (Some held) at = (held, at)

  -- the same, by cases
  pub by_held : (P : Option Held → Type 0) (cell : ℕ) → (held_at snapshot cell ≡ None → P None) → ((held : Held) → held_at snapshot cell ≡ Some held → HoldsSame layout cell (state.cells cell) held → P (Some held)) →
      P (held_at snapshot cell)
  by_held P cell none some = look (held_at snapshot cell) refl
    where
      look : (o : Option Held) → held_at snapshot cell ≡ o → P o
      look None at = none at
      look (Some held) at = some held at (same_held cell held at)

  root_held : (cell : ℕ) → (graph_held snapshot).root cell → IsRoot state cell
  root_held cell (Register who register, at) = (let (active, is_in) = (is.roots (Register who register) cell).0 at in in_register who register active is_in)
  root_held cell (Claim who, at) = claimed who ((is.roots (Claim who) cell).0 at)
  root_held cell (Strong handle, at) = in_handle handle ((is.roots (Strong handle) cell).0 at)

  root_of : (cell : ℕ) → IsRoot state cell → (graph_held snapshot).root cell
  root_of cell (in_register who register active is_in) = (Register who register, (is.roots (Register who register) cell).1 (active, is_in))
  root_of cell (claimed who at) = (Claim who, (is.roots (Claim who) cell).1 at)
  root_of cell (in_handle handle is_in) = (Strong handle, (is.roots (Strong handle) cell).1 is_in)

  link_held : (source cell : ℕ) → (graph_held snapshot).link source cell → IsLink state source cell
  link_held source cell = by_held (λ o. Contains (links_of o) cell → IsLink state source cell) source (λ none at. absurd (nowhere cell at)) (λ held holds same at.
      elim (Contains-append_cases (cells_in held.slots.items) (cells_under held.properties.items) cell at) [
        | inl slots ↦
            let (value, among, names) = from_flat_map cell_in held.slots.items cell slots in
            let (slot, below, same_value) = from_map (state.cells source).slots (up_to (slots_of (class_of layout source))) value (subst (λ (l : List Val). Contains l value) same.slots among) in
            in_slot slot same.is_live (same_value ∙ value_names value cell names)
        | inr properties ↦
            let (entry, among, names) = from_flat_map (λ (e : Keyed). cell_in e.value) held.properties.items cell properties in
            let (place, below, same_entry) = from_map (λ place. keyed (slice_index (state.cells source).keys place) ((state.cells source).properties place)) (up_to (length (state.cells source).keys)) entry
            (subst (λ (l : List Keyed). Contains l entry) same.properties among) in
            in_property place same.is_live (below_up_to (length (state.cells source).keys) place below) (ap (λ (e : Keyed). e.value) same_entry ∙ value_names entry.value cell names)
      ])

  link_of : (source cell : ℕ) → IsLink state source cell → (graph_held snapshot).link source cell
  link_of source cell (in_slot slot alive is_in) =
      let (held, at) = live_is_held source alive in
      let same = same_held source held at in
      let count = slots_of (class_of layout source) in
      let inside : slot < count = elim (cases_lt slot count) [
        | inl below ↦ below
        | inr past ↦ (let none = same.past_slots slot past in absurd (cc))
      ] in
      let among = subst (λ (l : List Val). Contains l ((state.cells source).slots slot)) (sym same.slots) (contains_map (state.cells source).slots (up_to count) slot (in_up_to count slot inside)) in
      let in_slots = in_flat_map cell_in held.slots.items ((state.cells source).slots slot) cell among (names_value ((state.cells source).slots slot) cell is_in) in
      subst (λ (o : Option Held). Contains (links_of o) cell) (sym at) (Contains-append_left (cells_in held.slots.items) (cells_under held.properties.items) cell in_slots)
  link_of source cell (in_property place alive below is_in) =
      let (held, at) = live_is_held source alive in
      let same = same_held source held at in
      let keys = (state.cells source).keys in
      let property = λ (k : ℕ). keyed (slice_index keys k) ((state.cells source).properties k) in
      let among = subst (λ (l : List Keyed). Contains l (property place)) (sym same.properties) (contains_map property (up_to (length keys)) place (in_up_to (length keys) place below)) in
      let in_properties = in_flat_map (λ (e : Keyed). cell_in e.value) held.properties.items (property place) cell among (names_value ((state.cells source).properties place) cell is_in) in
      subst (λ (o : Option Held). Contains (links_of o) cell) (sym at) (Contains-append_right (cells_in held.slots.items) (cells_under held.properties.items) cell in_properties)

  triple_held : (table key cell : ℕ) → (graph_held snapshot).triple table key cell → IsTriple state table key cell
  triple_held table key cell = by_held (λ o. HasPair (pairs_of o) key cell → IsTriple state table key cell) table (λ none has. absurd (nowhere has.0 has.1)) (λ held holds same has.
      let this : has.0 ≡ keyed key (Cell cell) = (let a = has.2 in let b = has.3 in λ i. record { key = a i; value = b i }) in
      record { is_live = same.is_live; has_pair = (same.pairs.each key (Cell cell)).0 (subst (Contains held.pairs.items) this has.1) })

  triple_of : (table key cell : ℕ) → IsTriple state table key cell → (graph_held snapshot).triple table key cell
  triple_of table key cell triple =
      let (held, at) = live_is_held table triple.is_live in
      let same = same_held table held at in
      subst (λ (o : Option Held). HasPair (pairs_of o) key cell) (sym at) (keyed key (Cell cell), (same.pairs.each key (Cell cell)).1 triple.has_pair, refl, refl)

  -- a cell in a group is live, and in that group of the state
  grouped : (cell : ℕ) → group_of (held_at snapshot cell) ≢ 0 → ((state.cells cell).status ≡ live) × (group_of (held_at snapshot cell) ≡ (state.cells cell).group)
  grouped cell = by_held (λ o. group_of o ≢ 0 → ((state.cells cell).status ≡ live) × (group_of o ≡ (state.cells cell).group)) cell
      (λ none some. absurd (some refl)) (λ held holds same some. (same.is_live, same.group))

  group_of_live : (cell : ℕ) → (state.cells cell).status ≡ live → group_of (held_at snapshot cell) ≡ (state.cells cell).group
  group_of_live cell alive = (let (held, at) = live_is_held cell alive in ap group_of at ∙ (same_held cell held at).group)

  pub held_within : IsWithin (graph_held snapshot) (graph_of state)
  held_within = record {
    roots = root_held;
    links = link_held;
    triples = triple_held;
    group_mates = λ one other group_mate.
        let a = grouped one (λ none. group_mate.1 (sym group_mate.0 ∙ none)) in
        let b = grouped other group_mate.1 in
        record { one_is_live = a.0; other_is_live = b.0; same_group = sym a.1 ∙ group_mate.0 ∙ b.1; in_a_group = λ none. group_mate.1 (sym group_mate.0 ∙ a.1 ∙ none) };
  }

  pub state_within : IsWithin (graph_of state) (graph_held snapshot)
  state_within = record {
    roots = root_of;
    links = link_of;
    triples = triple_of;
    group_mates = λ one other group_mates.
        let a = group_of_live one group_mates.one_is_live in
        let b = group_of_live other group_mates.other_is_live in
        (a ∙ group_mates.same_group ∙ sym b, λ none. group_mates.in_a_group (group_mates.same_group ∙ sym b ∙ none));
  }
