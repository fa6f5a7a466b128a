-- What is retained at all: the first phase of a search.
use Rattle.std.proofs.Common.{ℕ, ◌≡◌, ◌+◌, ◌<◌, ◌≤◌, true, List, [], ◌∷◌, ◌++◌, length, Option, None, Some, refl, sym, ap, ◌∙◌, subst, inl, inr, arith, get_or, fold, append-nil, append_assoc, length-append}
use Rattle.std.specs.Prelude.{◌⊎◌, Contains, is_some, slice_index}
use Rattle.std.proofs.lemmas.Bool.{cases_lt}
use Rattle.std.proofs.lemmas.List.{get_or_append_left, get_or_past, get_or_default}
use Rattle.std.proofs.lemmas.List.Sums.{count_by-le-length}
use Rattle.tide_model.specs.Graph.{IsClosed, no_cell, retained_in_closed}
use Rattle.tide_retained.specs.declared.contents.Contents.{Contents}
use Rattle.tide_retained.specs.declared.contents.Held.{Held}
use Rattle.tide_retained.specs.declared.index.Entry.{Entry}
use Rattle.tide_retained.specs.declared.search.Found.{Found}
use Rattle.tide_retained.specs.Contents.{graph_held, group_of, held_at, links_of, pairs_of}
use Rattle.tide_retained.specs.Index.{AreUnder, HasKeys, entry, items_of}
use Rattle.tide_retained.specs.Path.{to_value}
use Rattle.tide_retained.specs.Searching.{Search, found_at, is_known, pairs_entered, again_entered, again_entered_from, place_after, AreRetained, Extends, Grows, HasKeysBelow, IsFound, IsKeyVisited, IsPassed, IsRetaining, IsSearch, IsVisited, by_step}
use Rattle.tide_retained.proofs.EnterLaws.{pairs_are_entered}
use Rattle.tide_retained.proofs.ListLaws.{nowhere, contains_cases, contains_first, in_flat_map}

pub Extends-from_grows : (place : Found) (old new : Search) → Grows place old new → Extends old new
Extends-from_grows place old new grows =
    record { kept = grows.kept; known = grows.known; added = grows.added; order = grows.order; only_found = grows.only_found; same_size = grows.same_size }

pub Extends-refl : (search : Search) → Extends search search
Extends-refl search = record {
  kept = λ cell before is. is;
  known = λ cell is. is;
  added = [];
  order = sym (append-nil search.order);
  only_found = λ cell is. inl is;
  same_size = refl;
}

pub Extends-trans : (one two three : Search) → Extends one two → Extends two three → Extends one three
Extends-trans one two three first second = record {
  kept = λ cell before is. second.kept cell before (first.kept cell before is);
  known = λ cell is. second.known cell (first.known cell is);
  added = first.added ++ second.added;
  order = second.order ∙ ap (λ (l : List ℕ). l ++ second.added) first.order ∙ append_assoc one.order first.added second.added;
  only_found = λ cell known. elim (second.only_found cell known) [
    | inr found ↦ inr found
    | inl before ↦ elim (first.only_found cell before) [
      | inl old ↦ inl old
      | inr (f, found) ↦ inr (f, second.kept cell f found)
    ]
  ];
  same_size = second.same_size ∙ first.same_size;
}

-- a visited cell's record where the record of a found cell isn't told
visited_extends : (contents : Contents) (old new : Search) (cell : ℕ) → IsFound old cell → IsVisited contents old cell new → Extends old new
visited_extends contents old new cell (before, found) visited = Extends-from_grows (place_after cell before) old new (visited.grows before found)

-- there are as many cells as before
pub visit_size : (contents : Contents) (old new : Search) (cell : ℕ) → IsFound old cell → IsVisited contents old cell new → length new.found ≡ length old.found
visit_size contents old new cell found visited = (visited_extends contents old new cell found visited).same_size

-- the values of a table's pairs are entered once more
record AreAgain (contents : Contents) (old : Search) (table : ℕ) (new : Search) : Type 0 where
  search : IsSearch contents new
  extends : Extends old new
  values : (key target : ℕ) → (graph_held contents).triple table key target → IsFound old table → is_known old key ≡ true → target < length old.found → IsFound new target

again : (contents : Contents) (search : Search) (table : ℕ) → IsSearch contents search → AreAgain contents search table (again_entered contents search table)
again contents search table is = look (found_at search table) refl
  where
    look : (o : Option Found) → found_at search table ≡ o → AreAgain contents search table (again_entered_from o contents table search)
    look None none = record {
      search = is;
      extends = Extends-refl search;
      values = λ key target pair found known below. (let also = found.1 in absurd (cc));
    }
    look (Some before) found =
        let place = place_after table before in
        let pairs = pairs_of (held_at contents table) in
        let entered = pairs_are_entered contents place pairs search is (λ key target has kept. by_step before found refl refl (to_value key has kept)) in
        record {
          search = entered.search;
          extends = Extends-from_grows place search (pairs_entered place search pairs) entered.grows;
          values = λ key target pair also known below. entered.each key target pair known below;
        }

pub again_search : (contents : Contents) (search : Search) (table : ℕ) → IsSearch contents search → IsSearch contents (again_entered contents search table)
again_search contents search table is = (again contents search table is).search

-- those of some tables
pub all_again : (contents : Contents) (tables : List ℕ) (search : Search) → IsSearch contents search →
    IsSearch contents (fold (again_entered contents) search tables) × Extends search (fold (again_entered contents) search tables)
    × ((table key target : ℕ) → Contains tables table → (graph_held contents).triple table key target → IsFound search table → is_known search key ≡ true → target < length search.found →
    IsFound (fold (again_entered contents) search tables) target)
all_again contents [] search is = (is, Extends-refl search, λ table key target at. absurd (nowhere table at))
all_again contents (first ∷ tables) search is =
    let one = again contents search first is in
    let next = again_entered contents search first in
    let (rest_is, rest_extends, rest_values) = all_again contents tables next one.search in
    let last = fold (again_entered contents) next tables in (
      rest_is,
      Extends-trans search next last one.extends rest_extends,
      λ table key target at pair found known below.
          elim (contains_cases first tables table at) [
            | inl same ↦
                let here = subst (λ (t : ℕ). (graph_held contents).triple t key target) (sym same) pair in
                let (f, there) = one.values key target here (subst (IsFound search) (sym same) found) known below in
                (f, rest_extends.kept target f there)
            | inr later ↦ rest_values table key target later pair (found.0, one.extends.kept table found.0 found.1) (one.extends.known key known)
                (let size = one.extends.same_size in omega (arith, below, size))
          ],
    )

-- those under a key
pub key_visited : (contents : Contents) (entries under : List Entry) (search new : Search) (cell : ℕ) → IsSearch contents search → HasKeys contents entries → AreUnder entries cell under →
    new ≡ fold (again_entered contents) search (items_of under) → IsKeyVisited contents search cell new
key_visited contents entries under search new cell is has are same =
    let last = fold (again_entered contents) search (items_of under) in
    let (last_is, extends, values) = all_again contents (items_of under) search is in
    let visited : IsKeyVisited contents search cell last = record {
      search = last_is;
      extends = extends;
      values = λ table target pair found known below.
          let among = has table pair.0 pair.1 in
          let here : Contains entries (entry cell table) = subst (λ (k : ℕ). Contains entries (entry k table)) pair.2 among in
          let at = in_flat_map (λ entry. entry.item ∷ []) under (entry cell table) table ((are (entry cell table)).1 (here, refl)) (contains_first table []) in
          values table cell target at pair found known below;
    } in
    subst (IsKeyVisited contents search cell) (sym same) visited

-- what was passed stays so, and the next one is passed too
pub passed_cases : (old new : Search) (at cell : ℕ) → Extends old new → at < length old.order → IsPassed new (at + 1) cell → IsPassed old at cell ⊎ (slice_index old.order at ≡ cell)
passed_cases old new at cell extends within (i, below, is) =
    let same : slice_index new.order i ≡ slice_index old.order i =
    ap (λ (l : List ℕ). get_or l i 0) extends.order ∙ get_or_append_left old.order extends.added 0 i (omega (arith, below, within)) in
    elim (cases_lt i at) [
      | inl before ↦ inl (i, before, sym same ∙ is)
      | inr last ↦ (let this : i ≡ at = omega (arith, below, last) in inr (ap (slice_index old.order) (sym this) ∙ sym same ∙ is))
    ]

-- a passed cell was found
pub passed_found : (contents : Contents) (search : Search) (at cell : ℕ) → IsSearch contents search → at ≤ length search.order → IsPassed search at cell → IsFound search cell
passed_found contents search at cell is begun (i, below, same) =
    let within : i < length search.order = omega (arith, below, begun) in
    is.in_order cell (i, within, get_or_default search.order i cell 0 within ∙ same)

-- a cell in the order was found
pub ordered_found : (contents : Contents) (search : Search) (i cell : ℕ) → IsSearch contents search → i < length search.order → cell ≡ slice_index search.order i → IsFound search cell
ordered_found contents search i cell is within here = is.in_order cell (i, within, get_or_default search.order i cell 0 within ∙ sym here)

-- no more cells were found than there are
pub order_few : (contents : Contents) (search : Search) → IsSearch contents search → length search.order ≤ length search.found
order_few contents search is = let count = is.count in let few = count_by-le-length is_some search.found in omega (arith, count, few)

-- one more cell was visited
pub one_retaining : (contents : Contents) (search middle new : Search) (at cell : ℕ) → IsRetaining contents search at → at < length search.order → slice_index search.order at ≡ cell →
    IsVisited contents search cell middle → IsKeyVisited contents middle cell new → IsRetaining contents new (at + 1)
one_retaining contents search middle new at cell is within here visited key_visited =
    let found_here : IsFound search cell = is.stands.in_order cell (at, within, get_or_default search.order at cell 0 within ∙ here) in
    let first = visited_extends contents search middle cell found_here visited in
    let second = key_visited.extends in
    let both = Extends-trans search middle new first second in
    let keep : (target : ℕ) → IsFound search target → IsFound new target = λ target found. (found.0, both.kept target found.0 found.1) in
    let on : (target : ℕ) → IsFound middle target → IsFound new target = λ target found. (found.0, second.kept target found.0 found.1) in
    let small : (target : ℕ) → target < length new.found → target < length search.found = λ target below. (let size = both.same_size in omega (arith, below, size)) in
    let longer : length new.order ≡ length search.order + length both.added = ap {A = List ℕ} length both.order ∙ length-append search.order both.added in
    record {
      stands = key_visited.search;
      begun = omega (arith, longer, within);
      own = λ other known. elim (both.only_found other known) [
        | inl before ↦ keep other (is.own other before)
        | inr found ↦ found
      ];
      roots = λ other root below. keep other (is.roots other root (small other below));
      links = λ source target passed link below. elim (passed_cases search new at source both within passed) [
        | inl before ↦ keep target (is.links source target before link (small target below))
        | inr last ↦ on target (visited.links target (subst (λ (c : ℕ). (graph_held contents).link c target) (sym last ∙ here) link) (small target below))
      ];
      group_mates = λ source target passed group_mate. elim (passed_cases search new at source both within passed) [
        | inl before ↦ keep target (is.group_mates source target before group_mate)
        | inr last ↦ on target (visited.group_mates target (subst (λ (c : ℕ). (graph_held contents).group_mate c target) (sym last ∙ here) group_mate))
      ];
      values = λ table key target table_passed key_passed pair below. elim (passed_cases search new at table both within table_passed) [
        | inr last ↦
            let key_found : IsFound search key = elim (passed_cases search new at key both within key_passed) [
              | inl before ↦ passed_found contents search at key is.stands is.begun before
              | inr also_last ↦ subst (IsFound search) (sym here ∙ also_last) found_here
            ] in
            on target (visited.values key target (subst (λ (c : ℕ). (graph_held contents).triple c key target) (sym last ∙ here) pair)
            (is.stands.known key key_found.0 key_found.1) (small target below))
        | inl before ↦ elim (passed_cases search new at key both within key_passed) [
          | inl key_before ↦ keep target (is.values table key target before key_before pair (small target below))
          | inr key_last ↦
              let table_found = passed_found contents search at table is.stands is.begun before in
              let here_found = first.kept cell found_here.0 found_here.1 in
              key_visited.values table target (subst (λ (c : ℕ). (graph_held contents).triple table c target) (sym key_last ∙ here) pair)
              (table_found.0, first.kept table table_found.0 table_found.1) (visited.search.known cell found_here.0 here_found)
              (let size = first.same_size in let s = small target below in omega (arith, size, s))
        ]
      ];
    }

-- where each cell that was found was visited, all is found that is retained
pub all_retained : (contents : Contents) (search : Search) (at : ℕ) → IsRetaining contents search at → length search.order ≤ at → HasKeysBelow (length search.found) contents →
    AreRetained contents search.retained
all_retained contents search at is done few cell below =
    let sized = is.stands.sized in
    let inside : cell < length search.found = omega (arith, below, sized) in
    (is.stands.retained cell, λ kept. (let (f, found) = retained_in_closed (graph_held contents) no_cell member closed cell kept inside in is.stands.known cell f found))
  where
    member : ℕ → Type 0
    member c = c < length search.found → IsFound search c

    passed : (c : ℕ) → IsFound search c → IsPassed search at c
    passed c (f, found) =
        let (i, within, same) = is.stands.listed c f found in
        (i, omega (arith, within, done), get_or_default search.order i 0 c within ∙ same)

    wide : (c : ℕ) → (held_at contents c ≡ None → ⊥) → c < length search.found
    wide c some = elim (cases_lt c (length contents.cells.items)) [
      | inl inside ↦ (let w = is.stands.wide in omega (arith, inside, w))
      | inr past ↦ absurd (some (get_or_past contents.cells.items c None past))
    ]

    closed : IsClosed (graph_held contents) no_cell member
    closed = record {
      roots = λ c root b. is.roots c root b;
      further_cells = λ c none. absurd none;
      links = λ source c at_source link b.
          let there = wide source (λ none. nowhere c (subst (λ (o : Option Held). Contains (links_of o) c) none link)) in
          is.links source c (passed source (at_source there)) link b;
      pairs = λ table key c at_table at_key pair b.
          let there = wide table (λ none. nowhere pair.0 (subst (λ (o : Option Held). Contains (pairs_of o) pair.0) none pair.1)) in
          let small = few table pair.0 pair.1 in
          let key_below : key < length search.found = (let same = pair.2 in omega (arith, small, same)) in
          is.values table key c (passed table (at_table there)) (passed key (at_key key_below)) pair b;
      group_mates = λ one other at_one group_mate b.
          let there = wide one (λ none. (let zero = ap group_of none in group_mate.1 (sym group_mate.0 ∙ zero))) in
          is.group_mates one other (passed one (at_one there)) group_mate;
    }
