-- What entering cells leaves of a search.
use Rattle.std.proofs.Common.{ℕ, ◌≡◌, ◌+◌, ◌<◌, ◌≤◌, true, false, List, [], ◌∷◌, ◌++◌, length, Option, None, Some, refl, sym, ap, ◌∙◌, subst, inl, inr, arith, get_or, cond, append-nil, append_assoc, length-append, length-set, get_or-set_same, get_or-set_other}
use Rattle.std.specs.Prelude.{◌⊎◌, Contains, is_none, is_some, nat_lt, count_by, slice_set}
use Rattle.std.proofs.lemmas.Bool.{and_from, and_parts, cases_eq, cases_lt, cond_both, lt-ltb, ltb-true}
use Rattle.std.proofs.lemmas.List.{get_or_past}
use Rattle.std.proofs.lemmas.List.Elements.{Contains-append_left, Contains-append_cases, Contains-push, Contains-push_cases}
use Rattle.std.proofs.lemmas.List.Sums.{sum_by-set}
use Rattle.tide_model.specs.Graph.{IsRetained, is_root, no_cell}
use Rattle.tide_model.specs.declared.val.Val.{Val}
use Rattle.tide_model.specs.declared.val.Val.TheVariants.{Empty, Int, Cell}
use Rattle.tide_retained.specs.declared.contents.Contents.{Contents}
use Rattle.tide_retained.specs.declared.contents.Keyed.{Keyed}
use Rattle.tide_retained.specs.declared.search.Found.{Found}
use Rattle.tide_retained.specs.Contents.{HasPair, cell_in, graph_held}
use Rattle.tide_retained.specs.Searching.{Search, found_at, is_known, is_new, with_cell, entered, all_entered, pair_entered, pairs_entered, IsFound, IsPlaced, by_root, by_step, IsSearch, Grows, AreEntered, ArePairsEntered}
use Rattle.tide_retained.proofs.ListLaws.{nowhere, contains_one, contains_cases, contains_first, contains_later}
use Rattle.tide_retained.proofs.PathLaws.{step_retains}

-- what a new cell is
new_is : (search : Search) (cell : ℕ) → is_new search cell ≡ true → (cell < length search.found) × (found_at search cell ≡ None)
new_is search cell new =
    let parts = and_parts (nat_lt cell (length search.found)) (is_none (found_at search cell)) new in
    (ltb-true cell (length search.found) parts.0, none (found_at search cell) parts.1)
  where
    none : (o : Option Found) → is_none o ≡ true → o ≡ None
    none None h = refl
    none (Some place) h = absurd (cc)

-- nothing is found past the cells
pub found_within : (search : Search) (cell : ℕ) (place : Found) → found_at search cell ≡ Some place → cell < length search.found
found_within search cell place is = elim (cases_lt cell (length search.found)) [
  | inl within ↦ within
  | inr past ↦ (let none = get_or_past search.found cell None past in absurd (cc))
]

-- how cells are found once one more is
found_with : (place : Found) (search : Search) (new cell : ℕ) (at : Found) → new < length search.found → found_at (with_cell place search new) cell ≡ Some at →
    (found_at search cell ≡ Some at) ⊎ ((cell ≡ new) × (at ≡ place))
found_with place search new cell at within is = elim (cases_eq cell new) [
  | inl same ↦
      let there = get_or-set_same search.found new (Some place) None within in
      let here : found_at (with_cell place search new) new ≡ Some at = subst (λ (c : ℕ). found_at (with_cell place search new) c ≡ Some at) same is in
      let both : Some at ≡ Some place = sym here ∙ there in
      inr (same, cc)
  | inr other ↦ inl (sym (get_or-set_other search.found new cell (Some place) None other) ∙ is)
]

pub Grows-refl : (place : Found) (search : Search) → Grows place search search
Grows-refl place search = record {
  kept = λ cell before is. is;
  known = λ cell is. is;
  added = [];
  order = sym (append-nil search.order);
  like_this = λ cell none. absurd (nowhere cell none);
  only_found = λ cell known. inl known;
  same_size = refl;
}

pub Grows-trans : (place : Found) (one two three : Search) → Grows place one two → Grows place two three → Grows place one three
Grows-trans place one two three first second = record {
  kept = λ cell before is. second.kept cell before (first.kept cell before is);
  known = λ cell is. second.known cell (first.known cell is);
  added = first.added ++ second.added;
  order = second.order ∙ ap (λ (l : List ℕ). l ++ second.added) first.order ∙ append_assoc one.order first.added second.added;
  like_this = λ cell at. elim (Contains-append_cases first.added second.added cell at) [
    | inl here ↦ second.kept cell place (first.like_this cell here)
    | inr there ↦ second.like_this cell there
  ];
  only_found = λ cell known. elim (second.only_found cell known) [
    | inr found ↦ inr found
    | inl before ↦ elim (first.only_found cell before) [
      | inl old ↦ inl old
      | inr (f, found) ↦ inr (f, second.kept cell f found)
    ]
  ];
  same_size = second.same_size ∙ first.same_size;
}

Grows-with_cell : (place : Found) (search : Search) (cell : ℕ) → is_new search cell ≡ true → length search.retained ≡ length search.found → Grows place search (with_cell place search cell)
Grows-with_cell place search cell new sized =
    let (within, none) = new_is search cell new in
    record {
      kept = λ other before is. elim (cases_eq other cell) [
        | inl same ↦ (let clash : found_at search cell ≡ Some before = subst (λ (c : ℕ). found_at search c ≡ Some before) same is in absurd (cc))
        | inr apart ↦ get_or-set_other search.found cell other (Some place) None apart ∙ is
      ];
      known = λ other is. elim (cases_eq other cell) [
        | inl same ↦ ap (λ (c : ℕ). get_or (slice_set search.retained cell true) c false) same ∙ get_or-set_same search.retained cell true false (omega (arith, within, sized))
        | inr apart ↦ get_or-set_other search.retained cell other true false apart ∙ is
      ];
      added = cell ∷ [];
      order = refl;
      like_this = λ other at. ap (found_at (with_cell place search cell)) (sym (contains_one cell other at)) ∙ get_or-set_same search.found cell (Some place) None within;
      only_found = λ other known. elim (cases_eq other cell) [
        | inl same ↦ inr (place, ap (found_at (with_cell place search cell)) same ∙ get_or-set_same search.found cell (Some place) None within)
        | inr apart ↦ inl (sym (get_or-set_other search.retained cell other true false apart) ∙ known)
      ];
      same_size = length-set search.found cell (Some place);
    }

-- how a cell was found stays so
pub IsPlaced-grows : (contents : Contents) (like old_place : Found) (old new : Search) (cell : ℕ) → Grows like old new → IsPlaced contents old.found cell old_place → IsPlaced contents new.found cell old_place
IsPlaced-grows contents like place old new cell grows (by_root none own held) = by_root none own held
IsPlaced-grows contents like place old new cell grows (by_step before at further root step) = by_step before (grows.kept place.parent before at) further root step

-- a cell that was found like this is retained
pub placed_is_retained : (contents : Contents) (search : Search) (cell : ℕ) (place : Found) → IsSearch contents search → IsPlaced contents search.found cell place →
    IsRetained (graph_held contents) no_cell cell
placed_is_retained contents search cell place is (by_root none own held) = is_root cell (place.root, held)
placed_is_retained contents search cell place is (by_step before at further root step) = step_retains (is.retained place.parent (is.known place.parent before at)) step

-- so is how far it is
placed_near : (contents : Contents) (search : Search) (cell : ℕ) (place : Found) → IsSearch contents search → IsPlaced contents search.found cell place → place.distance ≤ length search.order
placed_near contents search cell place is (by_root none own held) = omega (arith, none)
placed_near contents search cell place is (by_step before at further root step) = let near = is.near place.parent before at in omega (arith, near, further)

-- one more is counted
one_counted : (place : Found) (search : Search) (cell : ℕ) → cell < length search.found → found_at search cell ≡ None → length search.order ≡ count_by is_some search.found →
    length (search.order ++ cell ∷ []) ≡ length search.order + 1 → length (search.order ++ cell ∷ []) ≡ count_by is_some (slice_set search.found cell (Some place))
one_counted place search cell within none count longer =
    let number : Option Found → ℕ = λ o. cond (is_some o) 1 0 in
    let more = sum_by-set number search.found cell (Some place) None within in
    let nothing : number (found_at search cell) ≡ 0 = ap number none in
    omega (arith, more, nothing, count, longer)

-- what isn't new was found
was_found : (search : Search) (cell : ℕ) → is_new search cell ≡ false → cell < length search.found → IsFound search cell
was_found search cell old below = look (found_at search cell) refl
  where
    look : (o : Option Found) → found_at search cell ≡ o → IsFound search cell
    look None e = (let new = and_from (nat_lt cell (length search.found)) (is_none (found_at search cell)) (lt-ltb cell (length search.found) below) (ap is_none e) in absurd (cc))
    look (Some place) e = (place, e)

IsSearch-with_cell : (contents : Contents) (place : Found) (search : Search) (cell : ℕ) → IsSearch contents search → IsPlaced contents search.found cell place → is_new search cell ≡ true →
    IsSearch contents (with_cell place search cell)
IsSearch-with_cell contents place search cell is placed new =
    let (within, none) = new_is search cell new in
    let grows = Grows-with_cell place search cell new is.sized in
    let next = with_cell place search cell in
    let longer : length (search.order ++ cell ∷ []) ≡ length search.order + 1 = length-append search.order (cell ∷ []) in
    record {
      sized = length-set search.retained cell true ∙ is.sized ∙ sym (length-set search.found cell (Some place));
      wide = subst (λ (n : ℕ). length contents.cells.items ≤ n) (sym (length-set search.found cell (Some place))) is.wide;
      retained = λ other known. elim (cases_eq other cell) [
        | inl same ↦ subst (IsRetained (graph_held contents) no_cell) (sym same) (placed_is_retained contents search cell place is placed)
        | inr apart ↦ is.retained other (sym (get_or-set_other search.retained cell other true false apart) ∙ known)
      ];
      placed = λ other at found. elim (found_with place search cell other at within found) [
        | inl before ↦ IsPlaced-grows contents place at search next other grows (is.placed other at before)
        | inr (same, like) ↦
            let here : IsPlaced contents search.found other place = subst (λ (c : ℕ). IsPlaced contents search.found c place) (sym same) placed in
            IsPlaced-grows contents place at search next other grows (subst (λ (f : Found). IsPlaced contents search.found other f) (sym like) here)
      ];
      known = λ other at found. elim (found_with place search cell other at within found) [
        | inl before ↦ grows.known other (is.known other at before)
        | inr (same, like) ↦ ap (λ (c : ℕ). get_or (slice_set search.retained cell true) c false) same ∙ get_or-set_same search.retained cell true false (let e = is.sized in omega (arith, within, e))
      ];
      near = λ other at found. elim (found_with place search cell other at within found) [
        | inl before ↦ (let near = is.near other at before in omega (arith, near, longer))
        | inr (same, like) ↦ (let near = placed_near contents search cell place is placed in let d = ap (λ (f : Found). f.distance) like in omega (arith, near, d, longer))
      ];
      listed = λ other at found. elim (found_with place search cell other at within found) [
        | inl before ↦ Contains-append_left search.order (cell ∷ []) other (is.listed other at before)
        | inr (same, like) ↦ subst (Contains (search.order ++ cell ∷ [])) (sym same) (Contains-push search.order cell)
      ];
      in_order = λ other at. elim (Contains-push_cases search.order cell other at) [
        | inl before ↦ (let (f, found) = is.in_order other before in (f, grows.kept other f found))
        | inr same ↦ (place, ap (found_at next) (sym same) ∙ get_or-set_same search.found cell (Some place) None within)
      ];
      count = one_counted place search cell within none is.count longer;
      group_mates = λ one group_mate mated pair. (let (f, found) = is.group_mates one group_mate mated pair in (f, grows.kept group_mate f found));
    }

IsSearch-entered : (contents : Contents) (place : Found) (search : Search) (cell : ℕ) → IsSearch contents search → IsPlaced contents search.found cell place → AreEntered contents place search (cell ∷ []) (entered place search cell)
IsSearch-entered contents place search cell is placed = cond_both (is_new search cell) (with_cell place search cell) search (AreEntered contents place search (cell ∷ []))
    (λ new.
    let (within, none) = new_is search cell new in
    record {
      search = IsSearch-with_cell contents place search cell is placed new;
      grows = Grows-with_cell place search cell new is.sized;
      each = λ other at below. (place, ap (found_at (with_cell place search cell)) (sym (contains_one cell other at)) ∙ get_or-set_same search.found cell (Some place) None within);
    })
    (λ old. record {
      search = is;
      grows = Grows-refl place search;
      each = λ other at below.
          let same = contains_one cell other at in
          let (f, found) = was_found search cell old (omega (arith, below, same)) in
          (f, ap (found_at search) (sym same) ∙ found);
    })

-- the same for some cells
pub cells_entered : (contents : Contents) (place : Found) (cells : List ℕ) (search : Search) → IsSearch contents search → ((cell : ℕ) → Contains cells cell → IsPlaced contents search.found cell place) →
    AreEntered contents place search cells (all_entered place search cells)
cells_entered contents place [] search is placed = record { search = is; grows = Grows-refl place search; each = λ cell at below. absurd (nowhere cell at) }
cells_entered contents place (cell ∷ cells) search is placed =
    let first = IsSearch-entered contents place search cell is (placed cell (contains_first cell cells)) in
    let next = entered place search cell in
    let rest = cells_entered contents place cells next first.search
    (λ other at. IsPlaced-grows contents place place search next other first.grows (placed other (contains_later cell cells other at))) in
    record {
      search = rest.search;
      grows = Grows-trans place search next (all_entered place next cells) first.grows rest.grows;
      each = λ other at below. elim (contains_cases cell cells other at) [
        | inl same ↦ (let (f, found) = first.each other (subst (Contains (cell ∷ [])) same (contains_first cell [])) below in (f, rest.grows.kept other f found))
        | inr later ↦ rest.each other later (let size = first.grows.same_size in omega (arith, below, size))
      ];
    }

-- a list of pairs has a pair of the first, or the rest has it
pair_cases : (pair : Keyed) (pairs : List Keyed) (key cell : ℕ) → HasPair (pair ∷ pairs) key cell → ((pair.key ≡ key) × (pair.value ≡ Cell cell)) ⊎ HasPair pairs key cell
pair_cases pair pairs key cell (other, at, of_key, of_value) = elim (contains_cases pair pairs other at) [
  | inl same ↦ inl (ap (λ (p : Keyed). p.key) same ∙ of_key, ap (λ (p : Keyed). p.value) same ∙ of_value)
  | inr later ↦ inr (other, later, of_key, of_value)
]

-- the value of a pair is entered, if its key is known to be retained
pair_is_entered : (contents : Contents) (place : Found) (pair : Keyed) (search : Search) → IsSearch contents search →
    ((cell : ℕ) → pair.value ≡ Cell cell → is_known search pair.key ≡ true → IsPlaced contents search.found cell place) →
    ArePairsEntered contents place search (pair ∷ []) (pair_entered place search pair)
pair_is_entered contents place pair search is placed =
    cond_both (is_known search pair.key) (all_entered place search (cell_in pair.value)) search (ArePairsEntered contents place search (pair ∷ []))
    (λ known.
    let entered = cells_entered contents place (cell_in pair.value) search is (λ cell at. placed cell (value_is pair.value cell at) known) in
    record {
      search = entered.search;
      grows = entered.grows;
      each = λ key cell has known_key below. elim (pair_cases pair [] key cell has) [
        | inl same ↦ entered.each cell (is_value pair.value cell same.1) below
        | inr none ↦ absurd (nowhere none.0 none.1)
      ];
    })
    (λ unknown. record {
      search = is;
      grows = Grows-refl place search;
      each = λ key cell has known below. elim (pair_cases pair [] key cell has) [
        | inl same ↦ (let also = ap (is_known search) same.0 ∙ known in absurd (cc))
        | inr none ↦ absurd (nowhere none.0 none.1)
      ];
    })
  where
    value_is : (value : Val) (cell : ℕ) → Contains (cell_in value) cell → value ≡ Cell cell
    value_is Empty cell at = absurd (nowhere cell at)
    value_is (Int n) cell at = absurd (nowhere cell at)
    value_is (Cell other) cell at = ap Cell (contains_one other cell at)

    is_value : (value : Val) (cell : ℕ) → value ≡ Cell cell → Contains (cell_in value) cell
    is_value value cell same = subst (λ (v : Val). Contains (cell_in v) cell) (sym same) (contains_first cell [])

-- the values of some pairs are entered, where steps lead to them from a cell
pub pairs_are_entered : (contents : Contents) (place : Found) (pairs : List Keyed) (search : Search) → IsSearch contents search →
    ((key cell : ℕ) → HasPair pairs key cell → IsRetained (graph_held contents) no_cell key → IsPlaced contents search.found cell place) →
    ArePairsEntered contents place search pairs (pairs_entered place search pairs)
pairs_are_entered contents place [] search is placed =
    record { search = is; grows = Grows-refl place search; each = λ key cell has known below. absurd (nowhere has.0 has.1) }
pairs_are_entered contents place (pair ∷ pairs) search is placed =
    let next = pair_entered place search pair in
    let first = pair_is_entered contents place pair search is
    (λ cell of known. placed pair.key cell (pair, contains_first pair pairs, refl, of) (is.retained pair.key known)) in
    let rest = pairs_are_entered contents place pairs next first.search
    (λ key cell has kept. IsPlaced-grows contents place place search next cell first.grows
    (placed key cell (has.0, contains_later pair pairs has.0 has.1, has.2, has.3) kept)) in
    record {
      search = rest.search;
      grows = Grows-trans place search next (pairs_entered place next pairs) first.grows rest.grows;
      each = λ key cell has known below. elim (pair_cases pair pairs key cell has) [
        | inl same ↦ (let (f, found) = first.each key cell (pair, contains_first pair [], same.0, same.1) known below in (f, rest.grows.kept cell f found))
        | inr later ↦ rest.each key cell later (first.grows.known key known) (let size = first.grows.same_size in omega (arith, below, size))
      ];
    }
