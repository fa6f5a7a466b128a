-- How far each retained cell is: the second phase of a search.
use Rattle.std.proofs.Common.{ℕ, suc, zero, ◌≡◌, ◌+◌, ◌-◌, ◌<◌, ◌≤◌, Bool, true, false, List, [], ◌∷◌, length, Option, None, Some, refl, sym, ap, ◌∙◌, subst, inl, inr, arith, get_or, fold, cond, add-zero, length-append}
use Rattle.std.specs.Prelude.{◌⊎◌, Contains, slice_index, replicate, is_some, option_map}
use Rattle.std.proofs.lemmas.Bool.{cases_lt}
use Rattle.std.proofs.lemmas.List.{get_or_append_left, get_or-append_right, get_or_past, get_or_default, get_or-replicate, length-replicate}
use Rattle.std.proofs.lemmas.List.Elements.{Contains-append_cases}
use Rattle.tide_model.specs.Graph.{IsRetained, no_cell}
use Rattle.tide_retained.specs.declared.contents.Contents.{Contents}
use Rattle.tide_retained.specs.declared.contents.Held.{Held}
use Rattle.tide_retained.specs.declared.contents.Rooted.{Rooted}
use Rattle.tide_retained.specs.declared.search.Found.{Found}
use Rattle.tide_retained.specs.Contents.{graph_held, group_of, held_at, links_of, pairs_of}
use Rattle.tide_retained.specs.Path.{IsStep, along_link, to_value, to_group_mate, IsDistanceOf, Reaches, at_root, by_step as by_one_step}
use Rattle.tide_retained.specs.Searching.{Search, distance_at, distance_in, found_at, found_in, root_entered, roots_entered, unsearched, place_after, AreRetained, Extends, FindsAll, HasKeysBelow, Grows, IsFound, IsLevelling, IsPassed, IsPlaced, IsRetaining, IsSearch, IsVisited, by_root, by_step}
use Rattle.tide_retained.proofs.EnterLaws.{cells_entered}
use Rattle.tide_retained.proofs.ListLaws.{nowhere, contains_cases, contains_first, contains_later, contains_one}
use Rattle.tide_retained.proofs.PathLaws.{retained_is_reached}
use Rattle.tide_retained.proofs.RetainLaws.{Extends-from_grows, Extends-refl, Extends-trans, ordered_found, passed_cases, passed_found}

-- so far is a cell that was found like this
distance_is : (search : Search) (cell : ℕ) (place : Found) → found_at search cell ≡ Some place → distance_at search cell ≡ place.distance
distance_is search cell place found = ap distance_in found

-- as far as before
distance_kept : (old new : Search) (cell : ℕ) → Extends old new → IsFound old cell → distance_at new cell ≡ distance_at old cell
distance_kept old new cell extends (f, found) = distance_is new cell f (extends.kept cell f found) ∙ sym (distance_is old cell f found)

-- a cell in the order was found
found_at_place : (contents : Contents) (search : Search) (i : ℕ) → IsSearch contents search → i < length search.order → IsFound search (slice_index search.order i)
found_at_place contents search i is within = ordered_found contents search i (slice_index search.order i) is within refl

-- a cell that was found stands in the order
found_ordered : (contents : Contents) (search : Search) (cell : ℕ) → IsSearch contents search → IsFound search cell → (i : ℕ) × (i < length search.order) × (slice_index search.order i ≡ cell)
found_ordered contents search cell is (f, found) =
    let (i, within, same) = is.listed cell f found in
    (i, within, get_or_default search.order i 0 cell within ∙ same)

-- a step from a visited cell leads to one that was found
stepped_to : (contents : Contents) (search new : Search) (at cell target : ℕ) → IsLevelling contents search at → HasKeysBelow (length search.found) contents → IsVisited contents search cell new →
    IsStep (graph_held contents) cell target → target < length search.found → IsFound new target
stepped_to contents search new at cell target is few visited (along_link link) below = visited.links target link below
stepped_to contents search new at cell target is few visited (to_value key pair kept) below =
    let small = few cell pair.0 pair.1 in
    let same = pair.2 in
    visited.values key target pair (is.complete key (omega (arith, small, same)) kept) below
stepped_to contents search new at cell target is few visited (to_group_mate group_mate) below = visited.group_mates target group_mate

-- what was found by now was found before, or like this
grown_cases : (contents : Contents) (place : Found) (old new : Search) (cell : ℕ) (found : Found) → IsSearch contents old → IsSearch contents new → Grows place old new →
    found_at new cell ≡ Some found → (found_at old cell ≡ Some found) ⊎ (found ≡ place)
grown_cases contents place old new cell found is is_new grows at =
    elim (Contains-append_cases old.order grows.added cell (subst (λ (l : List ℕ). Contains l cell) grows.order (is_new.listed cell found at))) [
      | inl before ↦
          let (f, was) = is.in_order cell before in
          let now = grows.kept cell f was in
          let same : f ≡ found = cc in
          inl (was ∙ ap Some same)
      | inr added ↦ (let now = grows.like_this cell added in inr (cc))
    ]

-- one more cell was visited
pub one_levelling : (contents : Contents) (search new : Search) (at cell : ℕ) → IsLevelling contents search at → HasKeysBelow (length search.found) contents → at < length search.order → slice_index search.order at ≡ cell →
    IsVisited contents search cell new → IsLevelling contents new (at + 1)
one_levelling contents search new at cell is few_keys within here visited =
    let found_cell : IsFound search cell = subst (IsFound search) here (found_at_place contents search at is.stands within) in
    let before = found_cell.0 in
    let place = place_after cell before in
    let grows = visited.grows before found_cell.1 in
    let extends = Extends-from_grows place search new grows in
    let small : (target : ℕ) → target < length new.found → target < length search.found = λ target below. (let size = grows.same_size in omega (arith, below, size)) in
    let longer : length new.order ≡ length search.order + length grows.added = ap {A = List ℕ} length grows.order ∙ length-append search.order grows.added in
    let cell_is : distance_at search (slice_index search.order at) ≡ before.distance = ap (distance_at search) here ∙ distance_is search cell before found_cell.1 in
    let old_at : (i : ℕ) → i < length search.order → slice_index new.order i ≡ slice_index search.order i =
    λ i below. ap (λ (l : List ℕ). get_or l i 0) grows.order ∙ get_or_append_left search.order grows.added 0 i below in
    let old_distance : (i : ℕ) → i < length search.order → distance_at new (slice_index new.order i) ≡ distance_at search (slice_index search.order i) =
    λ i below. ap (distance_at new) (old_at i below) ∙ distance_kept search new (slice_index search.order i) extends (found_at_place contents search i is.stands below) in
    let in_added : (target : ℕ) → Contains grows.added target → distance_at new target ≡ before.distance + 1 = λ target at_added. distance_is new target place (grows.like_this target at_added) in
    let new_distance : (i : ℕ) → length search.order ≤ i → i < length new.order → distance_at new (slice_index new.order i) ≡ before.distance + 1 = λ i past below.
    let k = i - length search.order in
    let same : slice_index new.order i ≡ slice_index grows.added k =
    ap (λ (l : List ℕ). get_or l i 0) grows.order ∙ get_or-append_right search.order grows.added (length search.order) i 0 refl past in
    let inside : k < length grows.added = omega (arith, past, below, longer) in
    ap (distance_at new) same ∙ in_added (slice_index grows.added k) (k, inside, get_or_default grows.added k (slice_index grows.added k) 0 inside) in
    let most : (i : ℕ) → i < length new.order → distance_at new (slice_index new.order i) ≤ before.distance + 1 = λ i below. elim (cases_lt i (length search.order)) [
      | inl old ↦ (let d = old_distance i old in let b = is.bound i within old in omega (arith, d, b, cell_is))
      | inr past ↦ (let d = new_distance i past below in omega (arith, d))
    ] in
    let near : (target : ℕ) → IsFound new target → (place : Found) × (found_at new target ≡ Some place) × (place.distance ≤ before.distance + 1) = λ target found.
    let (i, below, same) = found_ordered contents new target visited.search found in
    let m = most i below in
    let d : distance_at new (slice_index new.order i) ≡ found.0.distance = ap (distance_at new) same ∙ distance_is new target found.0 found.1 in
    (found.0, found.1, omega (arith, m, d)) in
    let cell_distance : distance_at new cell ≡ before.distance = distance_is new cell before (grows.kept cell before found_cell.1) in
    let rises : (i j : ℕ) → i ≤ j → j < length new.order → distance_at new (slice_index new.order i) ≤ distance_at new (slice_index new.order j) = λ i j up below. elim (cases_lt j (length search.order)) [
      | inl old ↦
          let d = old_distance j old in
          let e = old_distance i (omega (arith, up, old)) in
          let r = is.rising i j up old in
          omega (arith, d, e, r)
      | inr past ↦ (let d = new_distance j past below in let m = most i (omega (arith, up, below)) in omega (arith, d, m))
    ] in
    record {
      stands = visited.search;
      begun = omega (arith, longer, within);
      complete = λ other below kept. grows.known other (is.complete other (small other below) kept);
      roots = λ other root below. (let (f, found, at_once) = is.roots other root (small other below) in (f, grows.kept other f found, at_once));
      steps = λ source target passed step below. elim (passed_cases search new at source extends within passed) [
        | inl early ↦
            let (f, found, few) = is.steps source target early step (small target below) in
            let same = distance_kept search new source extends (passed_found contents search at source is.stands is.begun early) in
            (f, grows.kept target f found, omega (arith, few, same))
        | inr last ↦
            let this : source ≡ cell = sym last ∙ here in
            let far : distance_at new source ≡ before.distance = ap (distance_at new) this ∙ cell_distance in
            let stepped = subst (λ (c : ℕ). IsStep (graph_held contents) c target) this step in
            let (f, found, few) = near target (stepped_to contents search new at cell target is few_keys visited stepped (small target below)) in
            (f, found, omega (arith, few, far))
      ];
      rising = rises;
      bound = λ j next below.
          let m = most j below in
          let r = rises at (at + 1) (omega arith) next in
          let d = old_distance at within in
          omega (arith, m, r, d, cell_is);
    }

-- by the roots all are found that are roots, and no others
record RootsFound (contents : Contents) (roots : List Rooted) (old new : Search) : Type 0 where
  search : IsSearch contents new
  extends : Extends old new
  each : (rooted : Rooted) → Contains roots rooted → rooted.cell < length old.found → IsFound new rooted.cell
  at_once : ((cell : ℕ) (place : Found) → found_at old cell ≡ Some place → place.distance ≡ 0) → (cell : ℕ) (place : Found) → found_at new cell ≡ Some place → place.distance ≡ 0

roots_found : (contents : Contents) (roots : List Rooted) (search : Search) → IsSearch contents search → ((rooted : Rooted) → Contains roots rooted → Contains contents.roots.items rooted) →
    RootsFound contents roots search (roots_entered search roots)
roots_found contents [] search is given = record { search = is; extends = Extends-refl search; each = λ rooted at. absurd (nowhere rooted at); at_once = λ none. none }
roots_found contents (first ∷ roots) search is given =
    let place : Found = record { distance = 0; parent = first.cell; root = first.root } in
    let next = root_entered search first in
    let one = cells_entered contents place (first.cell ∷ []) search is (λ cell at.
    by_root refl (contains_one first.cell cell at) (subst (λ (c : ℕ). Contains contents.roots.items (record { root = first.root; cell = c })) (contains_one first.cell cell at)
    (given first (contains_first first roots)))) in
    let rest = roots_found contents roots next one.search (λ rooted at. given rooted (contains_later first roots rooted at)) in
    let extends = Extends-from_grows place search next one.grows in
    record {
      search = rest.search;
      extends = Extends-trans search next (roots_entered next roots) extends rest.extends;
      each = λ rooted at below. elim (contains_cases first roots rooted at) [
        | inl same ↦
            let (f, found) = one.each first.cell (contains_first first.cell []) (subst (λ (r : Rooted). r.cell < length search.found) (sym same) below) in
            subst (λ (r : Rooted). IsFound (roots_entered next roots) r.cell) same (f, rest.extends.kept first.cell f found)
        | inr later ↦ rest.each rooted later (let size = one.grows.same_size in omega (arith, below, size))
      ];
      at_once = λ none. rest.at_once (λ cell f found. elim (grown_cases contents place search next cell f is one.search one.grows found) [
        | inl before ↦ none cell f before
        | inr like ↦ ap (λ (p : Found). p.distance) like
      ]);
    }

-- no cell is found yet
none_found : (n cell : ℕ) → found_in (replicate n None) cell ≡ None
none_found n cell = elim (cases_lt cell n) [
  | inl below ↦ get_or-replicate n cell None None below
  | inr past ↦ get_or_past (replicate n None) cell None (let l = length-replicate {A = Option Found} n None in omega (arith, past, l))
]

none_counted : (n a : ℕ) → fold (λ a (o : Option Found). a + cond (is_some o) 1 0) a (replicate n None) ≡ a
none_counted zero a = refl
none_counted (suc n) a = none_counted n (a + 0) ∙ add-zero a

pub none_mated : (n cell : ℕ) → get_or (replicate n false) cell false ≡ false
none_mated n cell = elim (cases_lt cell n) [
  | inl below ↦ get_or-replicate n cell false false below
  | inr past ↦ get_or_past (replicate n false) cell false (let l = length-replicate {A = Bool} n false in omega (arith, past, l))
]

-- a search that begins, where what is known to be retained is
begins : (contents : Contents) (flags : List Bool) → length contents.cells.items ≤ length flags →
    ((cell : ℕ) → get_or flags cell false ≡ true → IsRetained (graph_held contents) no_cell cell) → IsSearch contents (unsearched flags)
begins contents flags wide sound =
    let n = length flags in
    let size : length (replicate {A = Option Found} n None) ≡ n = length-replicate n None in
    record {
      sized = sym size;
      wide = omega (arith, wide, size);
      retained = sound;
      placed = λ cell place found. (let none = none_found n cell in absurd (cc));
      known = λ cell place found. (let none = none_found n cell in absurd (cc));
      near = λ cell place found. (let none = none_found n cell in absurd (cc));
      listed = λ cell place found. (let none = none_found n cell in absurd (cc));
      in_order = λ cell at. absurd (nowhere cell at);
      count = sym (none_counted n 0);
      group_mates = λ cell group_mate mated pair. (let none = none_mated n cell in absurd (cc));
    }

-- all is begun once the roots were entered
rooted : (contents : Contents) (flags : List Bool) → length contents.cells.items ≤ length flags →
    ((cell : ℕ) → get_or flags cell false ≡ true → IsRetained (graph_held contents) no_cell cell) →
    RootsFound contents contents.roots.items (unsearched flags) (roots_entered (unsearched flags) contents.roots.items)
rooted contents flags wide sound = roots_found contents contents.roots.items (unsearched flags) (begins contents flags wide sound) (λ rooted at. at)

-- there are as many cells as flags
pub begun_size : (contents : Contents) (flags : List Bool) (search : Search) → length contents.cells.items ≤ length flags →
    ((cell : ℕ) → get_or flags cell false ≡ true → IsRetained (graph_held contents) no_cell cell) →
    search ≡ roots_entered (unsearched flags) contents.roots.items → length search.found ≡ length flags
begun_size contents flags search wide sound same =
    ap (λ (s : Search). length s.found) same ∙ (rooted contents flags wide sound).extends.same_size ∙ length-replicate (length flags) None

pub retaining_begins : (contents : Contents) (flags : List Bool) (search : Search) → length contents.cells.items ≤ length flags → ((cell : ℕ) → get_or flags cell false ≡ false) →
    search ≡ roots_entered (unsearched flags) contents.roots.items → IsRetaining contents search 0
retaining_begins contents flags search wide none same =
    let all = rooted contents flags wide (λ cell set. (let not = none cell in absurd (cc))) in
    let last = roots_entered (unsearched flags) contents.roots.items in
    let size = length-replicate {A = Option Found} (length flags) None in
    let is : IsRetaining contents last 0 = record {
      stands = all.search;
      begun = omega arith;
      own = λ cell known. elim (all.extends.only_found cell known) [
        | inl before ↦ (let not = none cell in absurd (cc))
        | inr found ↦ found
      ];
      roots = λ cell root below. all.each (record { root = root.0; cell = cell }) root.1 (let s = all.extends.same_size in omega (arith, below, s));
      links = λ cell target passed. absurd (let early = passed.1 in omega (arith, early));
      group_mates = λ cell target passed. absurd (let early = passed.1 in omega (arith, early));
      values = λ table key target passed. absurd (let early = passed.1 in omega (arith, early));
    } in
    subst (λ (s : Search). IsRetaining contents s 0) (sym same) is

-- what is set is retained
pub sound_flags : (contents : Contents) (flags : List Bool) → AreRetained contents flags → (cell : ℕ) → get_or flags cell false ≡ true → IsRetained (graph_held contents) no_cell cell
sound_flags contents flags are cell set = elim (cases_lt cell (length flags)) [
  | inl below ↦ (are cell below).0 set
  | inr past ↦ (let not = get_or_past flags cell false past in absurd (cc))
]

pub levelling_begins : (contents : Contents) (flags : List Bool) (search : Search) → length contents.cells.items ≤ length flags → AreRetained contents flags →
    search ≡ roots_entered (unsearched flags) contents.roots.items → IsLevelling contents search 0
levelling_begins contents flags search wide are same =
    let sound = sound_flags contents flags are in
    let all = rooted contents flags wide sound in
    let last = roots_entered (unsearched flags) contents.roots.items in
    let size = length-replicate {A = Option Found} (length flags) None in
    let grown = all.extends.same_size in
    let at_once : (cell : ℕ) (place : Found) → found_at last cell ≡ Some place → place.distance ≡ 0 =
    all.at_once (λ cell place found. (let none = none_found (length flags) cell in absurd (cc))) in
    let at_zero : (i : ℕ) → i < length last.order → distance_at last (slice_index last.order i) ≡ 0 = λ i within.
    let (f, found) = found_at_place contents last i all.search within in
    distance_is last (slice_index last.order i) f found ∙ at_once (slice_index last.order i) f found in
    let is : IsLevelling contents last 0 = record {
      stands = all.search;
      begun = omega arith;
      complete = λ cell below kept. all.extends.known cell ((are cell (omega (arith, below, size, grown))).1 kept);
      roots = λ cell root below.
          let (f, found) = all.each (record { root = root.0; cell = cell }) root.1 (omega (arith, below, grown)) in
          (f, found, at_once cell f found);
      steps = λ cell target passed. absurd (let early = passed.1 in omega (arith, early));
      rising = λ i j up within. (let a = at_zero i (omega (arith, up, within)) in let b = at_zero j within in omega (arith, a, b));
      bound = λ j some within. (let a = at_zero j within in omega (arith, a));
    } in
    subst (λ (s : Search). IsLevelling contents s 0) (sym same) is

-- so many steps lead to a cell as the way by which it was found has
reached_by : (contents : Contents) (found : List (Option Found)) → ((cell : ℕ) (place : Found) → found_in found cell ≡ Some place → IsPlaced contents found cell place) →
    (n cell : ℕ) (place : Found) → found_in found cell ≡ Some place → place.distance ≡ n → Reaches (graph_held contents) n cell
reached_by contents found placed zero cell place at far = elim (placed cell place at) [
  | by_root none own held ↦ at_root (place.root, held)
  | by_step before there further root along ↦ absurd (omega (arith, far, further))
]
reached_by contents found placed (suc n) cell place at far = elim (placed cell place at) [
  | by_root none own held ↦ absurd (omega (arith, far, none))
  | by_step before there further root along ↦ by_one_step place.parent (reached_by contents found placed n place.parent before there (omega (arith, far, further))) along
]

-- where each cell that was found was visited, all is found, at its distance
pub all_found : (contents : Contents) (search : Search) (at : ℕ) → IsLevelling contents search at → length search.order ≤ at → FindsAll contents search.found
all_found contents search at is done = record {
  wide = is.stands.wide;
  placed = is.stands.placed;
  distances = λ cell below. look cell below (found_at search cell) refl;
}
  where
    passed : (c : ℕ) → IsFound search c → IsPassed search at c
    passed c found =
        let (i, within, same) = found_ordered contents search c is.stands found in
        (i, omega (arith, within, done), same)

    wide : (c : ℕ) → (held_at contents c ≡ None → ⊥) → c < length search.found
    wide c some = elim (cases_lt c (length contents.cells.items)) [
      | inl inside ↦ (let w = is.stands.wide in omega (arith, inside, w))
      | inr past ↦ absurd (some (get_or_past contents.cells.items c None past))
    ]

    from_live : (source target : ℕ) → IsStep (graph_held contents) source target → source < length search.found
    from_live source target (along_link link) = wide source (λ none. nowhere target (subst (λ (o : Option Held). Contains (links_of o) target) none link))
    from_live source target (to_value key pair kept) = wide source (λ none. nowhere pair.0 (subst (λ (o : Option Held). Contains (pairs_of o) pair.0) none pair.1))
    from_live source target (to_group_mate group_mate) = wide source (λ none. (let none_is = ap group_of none in group_mate.1 (sym group_mate.0 ∙ none_is)))

    within : (n c : ℕ) → Reaches (graph_held contents) n c → c < length search.found → (place : Found) × (found_at search c ≡ Some place) × (place.distance ≤ n)
    within zero c (at_root root) below = (let (f, found, none) = is.roots c root below in (f, found, omega (arith, none)))
    within (suc n) c (by_one_step source reaches step) below =
        let (before, was, few) = within n source reaches (from_live source c step) in
        let (f, found, most) = is.steps source c (passed source (before, was)) step below in
        let far = distance_is search source before was in
        (f, found, omega (arith, most, far, few))

    look : (cell : ℕ) → cell < length search.found → (o : Option Found) → found_at search cell ≡ o → IsDistanceOf (graph_held contents) cell (option_map (λ place. place.distance) o)
    look cell below None none = λ kept.
        let (n, reaches) = retained_is_reached (graph_held contents) cell kept in
        let (f, found, few) = within n cell reaches below in
        absurd (cc)
    look cell below (Some place) found = record {
      reaches = reached_by contents search.found is.stands.placed place.distance cell place found refl;
      least = λ others reaches.
          let (f, also, few) = within others cell reaches below in
          let same : place ≡ f = cc in
          let distance = ap (λ (p : Found). p.distance) same in
          omega (arith, few, distance);
    }
