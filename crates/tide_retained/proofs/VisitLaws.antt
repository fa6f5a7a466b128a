-- What a visit of a cell leaves of a search.
use Rattle.std.proofs.Common.{ℕ, ◌≡◌, ◌<◌, Bool, true, false, List, [], ◌∷◌, length, Option, None, Some, refl, sym, ap, ◌∙◌, subst, inl, inr, arith, fold}
use Rattle.std.specs.Prelude.{◌⊎◌, ◌≢◌, Contains, slice_set}
use Rattle.std.proofs.lemmas.Bool.{cases_eq, cases_lt}
use Rattle.std.proofs.lemmas.List.{get_or_past}
use Rattle.std.proofs.Common.{get_or, get_or-set_other}
use Rattle.tide_retained.specs.declared.contents.Contents.{Contents}
use Rattle.tide_retained.specs.declared.contents.Held.{Held}
use Rattle.tide_retained.specs.declared.index.Entry.{Entry}
use Rattle.tide_retained.specs.declared.search.Found.{Found}
use Rattle.tide_retained.specs.Contents.{HasPair, graph_held, group_of, held_at, links_of, pairs_of}
use Rattle.tide_retained.specs.Index.{AreUnder, HasGroups, entry, items_of}
use Rattle.tide_retained.specs.Path.{along_link, to_value, to_group_mate}
use Rattle.tide_retained.specs.Searching.{Search, found_at, is_known, entered, all_entered, held_entered, group_mates_entered, with_mated, place_after, IsFound, by_step, IsSearch, Grows, AreEntered, ArePairsEntered, IsVisited}
use Rattle.tide_retained.proofs.EnterLaws.{Grows-refl, Grows-trans, cells_entered, pairs_are_entered}
use Rattle.tide_retained.proofs.ListLaws.{nowhere, contains_first, contains_later, contains_one, from_flat_map, in_flat_map}

-- what was found of a cell is one thing
pub found_once : (search : Search) (cell : ℕ) (one other : Found) → found_at search cell ≡ Some one → found_at search cell ≡ Some other → one ≡ other
found_once search cell one other is also = cc

-- a visit of a cell that isn't live enters nothing
pub visited_none : (contents : Contents) (search : Search) (cell : ℕ) → IsSearch contents search → held_at contents cell ≡ None → IsVisited contents search cell search
visited_none contents search cell is none = record {
  search = is;
  grows = λ before found. Grows-refl (place_after cell before) search;
  links = λ target link below. absurd (nowhere target (subst (λ (o : Option Held). Contains (links_of o) target) none link));
  values = λ key target pair known below.
      let at = subst (λ (o : Option Held). Contains (pairs_of o) pair.0) none pair.1 in
      absurd (nowhere pair.0 at);
  group_mates = λ group_mate pair. (let zero = ap group_of none in absurd (pair.1 (sym pair.0 ∙ zero)));
}

-- what a cell holds is entered
held_is_entered : (contents : Contents) (search : Search) (cell : ℕ) (held : Held) (before : Found) → IsSearch contents search → held_at contents cell ≡ Some held →
    found_at search cell ≡ Some before → ArePairsEntered contents (place_after cell before) (all_entered (place_after cell before) search (links_of (Some held))) held.pairs.items
    (held_entered (place_after cell before) search held) × AreEntered contents (place_after cell before) search (links_of (Some held)) (all_entered (place_after cell before) search (links_of (Some held)))
held_is_entered contents search cell held before is holds found =
    let place = place_after cell before in
    let next = all_entered place search (links_of (Some held)) in
    let links = cells_entered contents place (links_of (Some held)) search is
    (λ target at. by_step before found refl refl (along_link (subst (λ (o : Option Held). Contains (links_of o) target) (sym holds) at))) in
    let pairs = pairs_are_entered contents place held.pairs.items next links.search
    (λ key target has kept. by_step before (links.grows.kept cell before found) refl refl
    (to_value key (subst (λ (o : Option Held). HasPair (pairs_of o) key target) (sym holds) has) kept)) in
    (pairs, links)

-- all was entered that a cell holds, but for its group mates
pub record HoldsEntered (contents : Contents) (old : Search) (cell : ℕ) (before : Found) (new : Search) : Type 0 where
  pub found : found_at old cell ≡ Some before
  pub search : IsSearch contents new
  pub grows : Grows (place_after cell before) old new
  pub links : (target : ℕ) → (graph_held contents).link cell target → target < length old.found → IsFound new target
  pub values : (key target : ℕ) → (graph_held contents).triple cell key target → is_known old key ≡ true → target < length old.found → IsFound new target

-- what a cell holds is entered
pub holds_entered : (contents : Contents) (search : Search) (cell : ℕ) (held : Held) (before : Found) → IsSearch contents search → held_at contents cell ≡ Some held →
    found_at search cell ≡ Some before → (next : Search) → next ≡ held_entered (place_after cell before) search held → HoldsEntered contents search cell before next
holds_entered contents search cell held before is holds found next same =
    let (pairs, links) = held_is_entered contents search cell held before is holds found in
    let place = place_after cell before in
    let middle = all_entered place search (links_of (Some held)) in
    let last = held_entered place search held in
    let all : HoldsEntered contents search cell before last = record {
      found = found;
      search = pairs.search;
      grows = Grows-trans place search middle last links.grows pairs.grows;
      links = λ target link below.
          let (f, there) = links.each target (subst (λ (o : Option Held). Contains (links_of o) target) holds link) below in
          (f, pairs.grows.kept target f there);
      values = λ key target pair known below.
          pairs.each key target (subst (λ (o : Option Held). HasPair (pairs_of o) key target) holds pair) (links.grows.known key known)
          (let size = links.grows.same_size in omega (arith, below, size));
    } in
    subst (HoldsEntered contents search cell before) (sym same) all

-- and its group mates were found before
pub with_found_group_mates : (contents : Contents) (old new : Search) (cell : ℕ) (before : Found) → HoldsEntered contents old cell before new →
    ((group_mate : ℕ) → (graph_held contents).group_mate cell group_mate → IsFound new group_mate) → IsVisited contents old cell new
with_found_group_mates contents old new cell before entered group_mates = record {
  search = entered.search;
  grows = λ also is_also. subst (λ (f : Found). Grows (place_after cell f) old new) (found_once old cell before also entered.found is_also) entered.grows;
  links = entered.links;
  values = entered.values;
  group_mates = group_mates;
}

-- the flags of some cells are set
flags_set : (cells : List ℕ) (flags : List Bool) (cell : ℕ) → get_or (fold (λ flags cell. slice_set flags cell true) flags cells) cell false ≡ true →
    (get_or flags cell false ≡ true) ⊎ Contains cells cell
flags_set [] flags cell is = inl is
flags_set (first ∷ cells) flags cell is = elim (flags_set cells (slice_set flags first true) cell is) [
  | inr later ↦ inr (contains_later first cells cell later)
  | inl set ↦ elim (cases_eq cell first) [
    | inl same ↦ inr (subst (Contains (first ∷ cells)) (sym same) (contains_first first cells))
    | inr other ↦ inl (sym (get_or-set_other flags first cell true false other) ∙ set)
  ]
]

-- noting that the group mates of some cells were entered keeps a search, where they were
mated_search : (contents : Contents) (search : Search) (cells : List ℕ) → IsSearch contents search →
    ((cell group_mate : ℕ) → Contains cells cell → (graph_held contents).group_mate cell group_mate → IsFound search group_mate) → IsSearch contents (with_mated search cells)
mated_search contents search cells is entered = record {
  sized = is.sized;
  wide = is.wide;
  retained = is.retained;
  placed = is.placed;
  known = is.known;
  near = is.near;
  listed = is.listed;
  in_order = is.in_order;
  count = is.count;
  group_mates = λ one group_mate mated pair. elim (flags_set cells search.mated one mated) [
    | inl was ↦ is.group_mates one group_mate was pair
    | inr now ↦ entered one group_mate now pair
  ];
}

-- a cell that holds something is one of the cells
live_is_wide : (contents : Contents) (search : Search) (cell : ℕ) → IsSearch contents search → group_of (held_at contents cell) ≢ 0 → cell < length search.found
live_is_wide contents search cell is some = elim (cases_lt cell (length contents.cells.items)) [
  | inl within ↦ (let wide = is.wide in omega (arith, within, wide))
  | inr past ↦ absurd (some (ap group_of (get_or_past contents.cells.items cell None past)))
]

-- the items under a group are the cells in it
under_group : (contents : Contents) (entries members : List Entry) (group cell : ℕ) → HasGroups contents entries → AreUnder entries group members → Contains (items_of members) cell →
    (group_of (held_at contents cell) ≡ group) × (group ≢ 0)
under_group contents entries members group cell has under at =
    let (one, among, is) = from_flat_map (λ entry. entry.item ∷ []) members cell at in
    let (stands, label) = (under one).0 among in
    let same = contains_one one.item cell is in
    let this : one ≡ entry group cell = λ i. record { label = label i; item = same i } in
    has.only group cell (subst (Contains entries) this stands)

in_group : (contents : Contents) (entries members : List Entry) (group cell : ℕ) → HasGroups contents entries → AreUnder entries group members → group_of (held_at contents cell) ≡ group → group ≢ 0 →
    Contains (items_of members) cell
in_group contents entries members group cell has under is some =
    let stands = has.stands cell (λ none. some (sym is ∙ none)) in
    let among = (under (entry group cell)).1 (subst (λ (g : ℕ). Contains entries (entry g cell)) is stands, refl) in
    in_flat_map (λ entry. entry.item ∷ []) members (entry group cell) cell among (contains_first cell [])

-- and its group mates are entered, as the members of its group
pub with_entered_group_mates : (contents : Contents) (entries members : List Entry) (old middle : Search) (cell group : ℕ) (before : Found) → HoldsEntered contents old cell before middle →
    HasGroups contents entries → AreUnder entries group members → group_of (held_at contents cell) ≡ group → group ≢ 0 → (new : Search) →
    new ≡ group_mates_entered (place_after cell before) middle members → IsVisited contents old cell new
with_entered_group_mates contents entries members old middle cell group before entered has under in_it some new same =
    let place = place_after cell before in
    let items = items_of members in
    let next = all_entered place middle items in
    let last = with_mated next items in
    let all = cells_entered contents place items middle entered.search (λ member at.
    let of_group = (under_group contents entries members group member has under at).0 in
    by_step before (entered.grows.kept cell before entered.found) refl refl (to_group_mate (in_it ∙ sym of_group, λ none. some (sym of_group ∙ none)))) in
    let found : (member : ℕ) → group_of (held_at contents member) ≡ group → IsFound next member = λ member is.
    all.each member (in_group contents entries members group member has under is some) (live_is_wide contents middle member entered.search (λ none. some (sym is ∙ none))) in
    let search = mated_search contents next items all.search (λ one group_mate at pair.
    let of_group = (under_group contents entries members group one has under at).0 in
    found group_mate (sym pair.0 ∙ of_group)) in
    let visited : IsVisited contents old cell last = record {
      search = search;
      grows = λ also is_also. subst (λ (f : Found). Grows (place_after cell f) old last) (found_once old cell before also entered.found is_also)
          (grows_mated place old next items (Grows-trans place old middle next entered.grows all.grows));
      links = λ target link below. (let (f, there) = entered.links target link below in (f, all.grows.kept target f there));
      values = λ key target pair known below. (let (f, there) = entered.values key target pair known below in (f, all.grows.kept target f there));
      group_mates = λ group_mate pair. found group_mate (sym pair.0 ∙ in_it);
    } in
    subst (IsVisited contents old cell) (sym same) visited
  where
    grows_mated : (place : Found) (one two : Search) (cells : List ℕ) → Grows place one two → Grows place one (with_mated two cells)
    grows_mated place one two cells grows = record {
      kept = grows.kept;
      known = grows.known;
      added = grows.added;
      order = grows.order;
      like_this = grows.like_this;
      only_found = grows.only_found;
      same_size = grows.same_size;
    }
