-- Lists by number, and children by parent and key.
use native.Mathlib.Omega.{arith}
use Rattle.std.proofs.Common.{ℕ, zero, suc, ◌+◌, ◌*◌, ◌^◌, ◌≡◌, ◌≢◌, ◌<◌, ◌≤◌, Bool, true, false, cond, refl, sym, ◌∙◌, ap, subst, List, [], ◌∷◌, ◌++◌, length, length-append, map, get_or, inl, inr, eq-eqb, true≢false, Option, None, Some}
use Rattle.std.proofs.lemmas.Bool.{ne_eqb, cases_eq}
use Rattle.std.proofs.lemmas.List.{same_from_push, length-map, map-append}
use Rattle.std.specs.Map.{lookup}
use Rattle.std.proofs.lemmas.Option.{slice_get-get_or, get_or_from_slice_get, slice_get_within}
use Rattle.std.specs.HashMap.{HashMap, get}
use Rattle.std.specs.Option.{unwrap_or}
use Rattle.std.specs.Prelude.{All, Contains, IfNone, IfSome, is_some, nat_eq, slice_get}
use Rattle.tide_model.specs.Refused.{ShapeLists}
use Rattle.tide_shape.specs.ShapeTable.{HasNoKeyTwice, IsShapeTable, keys_of}
use Rattle.tide_grow_shape.specs.growers.Grown.{IsAbove, IsKnowledge, Knowledge, Knows, known_keys}
use Rattle.tide_grow_shape.specs.growers.Stands.{Stands}
use Rattle.tide_grow_shape.specs.growers.Numbered.{AreChildren, AreListed, AreLists, IsNumbered, IsParent, pair_number}
use Rattle.tide_grow_shape.specs.transitions.Sights.{edge_of, edges_of}
use Rattle.tide_grow_shape.specs.transitions.Walks.{Edge, AreOfOne, Lists, empty, longer}
use Rattle.tide_grow_shape.specs.declared.transitions.sight.Sight.{Sight}
use Rattle.tide_grow_shape.proofs.transitions_laws.GrownLaws.{Finds-end, keys_same, shape_same, no_push}
use Rattle.tide_grow_shape.proofs.growers_laws.GrowingLaws.{lists_known}
use Rattle.tide_grow_shape.proofs.transitions_laws.SightLaws.{edge_in, seen_of}
use Rattle.tide_grow_shape.proofs.growers_laws.KnownLaws.{none_some}
use Rattle.tide_grow_shape.proofs.transitions_laws.PlaceLaws.{some_same}

-- what a shape with a sight has: it is no empty shape, and its parent and last key are those of the sight
record Parted (edges : List Edge) (parent key : ℕ) (keys : List ℕ) : Type 0 where
  front : List ℕ
  is : keys ≡ front ++ key ∷ []
  lists : Lists edges parent front

parted : (edges : List Edge) (e : Edge) → AreOfOne edges → Contains edges e → {shape : ℕ} {keys : List ℕ} → e.child ≡ shape → Lists edges shape keys → Parted edges e.parent e.key keys
parted edges e one in_e child (empty first nothing) = absurd (one.some e in_e (child ∙ first))
parted edges e one in_e child (longer p front k lists finds is) =
    let end = Finds-end finds in
    let same : end.edge.child ≡ e.child = end.names ∙ sym child in
    record {
      front = front;
      is = is ∙ ap (λ (key : ℕ). front ++ key ∷ []) (sym end.by ∙ one.keys end.edge e end.seen in_e same);
      lists = subst (λ (n : ℕ). Lists edges n front) (sym end.under ∙ one.parents end.edge e end.seen in_e same) lists;
    }

-- a shape that no sight names has no key
unparted : (sights : List Sight) {shape : ℕ} {keys : List ℕ} → All (λ s. s.child ≢ shape) sights → Lists (edges_of sights) shape keys → keys ≡ []
unparted sights apart (empty first nothing) = nothing
unparted sights apart (longer p front k lists finds is) =
    let end = Finds-end finds in
    let of = seen_of sights end.edge end.seen in
    absurd (All-contains_at sights of.sight apart of.there (ap (λ (e : Edge). e.child) of.is ∙ end.names))
  where
    All-contains_at : (ss : List Sight) (s : Sight) {n : ℕ} → All (λ s. s.child ≢ n) ss → Contains ss s → s.child ≢ n
    All-contains_at ss s {n} all there is = all there.0 s there.1 (ap (λ (t : Sight). t.child) there.2 ∙ is)

module _ (g : Knowledge) (name : List ℕ) (sights : List Sight) (stands : Stands name sights g.known) where
  lists_of : (shape : ℕ) (keys : List ℕ) → Knows g shape keys → Lists (edges_of sights) shape keys
  lists_of = lists_known name sights g.known stands

  pub is_parent : (shape : ℕ) (s : Sight) → Contains sights s → s.child ≡ shape → IsParent g shape s.parent s.key
  is_parent shape s in_s child = record {
    front = λ keys knows. let p = part keys knows in (p.front, p.is);
    only = λ front other knows theirs. shape_same (edges_of sights) stands.seen.one refl (lists_of other front theirs) (of_front front knows);
    keys = λ front others knows theirs. keys_same (edges_of sights) stands.seen.one refl (lists_of s.parent others theirs) (of_front front knows);
  }
    where
      part : (keys : List ℕ) → Knows g shape keys → Parted (edges_of sights) s.parent s.key keys
      part keys knows = parted (edges_of sights) (edge_of s) stands.seen.one (edge_in sights s in_s) child (lists_of shape keys knows)

      of_front : (front : List ℕ) → Knows g shape (front ++ s.key ∷ []) → Lists (edges_of sights) s.parent front
      of_front front knows = let p = part (front ++ s.key ∷ []) knows in subst (Lists (edges_of sights) s.parent) (sym (same_from_push front p.front s.key s.key p.is).0) p.lists

  pub no_parent : (shape : ℕ) → All (λ s. s.child ≢ shape) sights → (keys : List ℕ) → Knows g shape keys → keys ≡ []
  no_parent shape apart keys knows = unparted sights apart (lists_of shape keys knows)

-- numbers of two shapes with two keys are the same only for the same shape and the same key
pair_shape : (shape other key more : ℕ) → key < 2 ^ 32 → more < 2 ^ 32 → pair_number shape key ≡ pair_number other more → shape ≡ other
pair_shape shape other key more a b same = let e : shape * 4294967296 + key ≡ other * 4294967296 + more = same in omega (arith, a, b, e)

pair_key : (shape other key more : ℕ) → key < 2 ^ 32 → more < 2 ^ 32 → pair_number shape key ≡ pair_number other more → key ≡ more
pair_key shape other key more a b same = let e : shape * 4294967296 + key ≡ other * 4294967296 + more = same in omega (arith, a, b, e)

module _ {S : Type 0} (g : Knowledge) where
  -- no child yet
  pub children_none : (children : HashMap ℕ ℕ S) → ((n : ℕ) → get nat_eq children n ≡ None) → AreChildren g 0 children
  children_none children none = record {
    found = λ parent key child front small is knows. none_some (sym (none (pair_number parent key)) ∙ is);
    none = λ parent key child front below knows longer. absurd (omega (arith, below));
  }

  module _ (past : ℕ) (children : HashMap ℕ ℕ S) (are : AreChildren g past children) where
    -- a number that isn't known, or has no parent, is no child
    pub children_same : ((front : List ℕ) (key : ℕ) → ¬ (Knows g past (front ++ key ∷ []))) → AreChildren g (past + 1) children
    children_same unknown = record {
      found = are.found;
      none = λ parent key child front below knows longer. elim (cases_eq child past) [
        | inl same ↦ absurd (unknown front key (subst (λ (n : ℕ). Knows g n (front ++ key ∷ [])) same longer))
        | inr apart ↦ are.none parent key child front (omega (arith, below, apart)) knows longer
      ];
    }

    pub children_more : (parent key : ℕ) (more : HashMap ℕ ℕ S) (keys : List ℕ) → key < 2 ^ 32 → Knows g past keys → IsParent g past parent key
        → ((q : ℕ) → get nat_eq more q ≡ cond (nat_eq (pair_number parent key) q) (Some past) (get nat_eq children q)) → AreChildren g (past + 1) more
    children_more parent key more keys small known is updates = record {
      found = λ p k child front below there knows. elim (cases_eq (pair_number parent key) (pair_number p k)) [
        | inl same ↦
            let shape : parent ≡ p = pair_shape parent p key k small below same in
            let last : key ≡ k = pair_key parent p key k small below same in
            let here : past ≡ child = some_same (sym (updates (pair_number p k) ∙ ap (λ (b : Bool). cond b (Some past) (get nat_eq children (pair_number p k))) (eq-eqb (pair_number parent key) (pair_number p k) same)) ∙ there) in
            let parts = is.front keys known in
            let longer : Knows g past (parts.0 ++ key ∷ []) = known ∙ ap (λ (ks : List ℕ). Some ks) parts.1 in
            let fronts : front ≡ parts.0 = is.keys parts.0 front longer (subst (λ (n : ℕ). Knows g n front) (sym shape) knows) in
            subst (λ (n : ℕ). Knows g n (front ++ k ∷ [])) here (longer ∙ ap (λ (f : List ℕ). Some (f ++ key ∷ [])) (sym fronts) ∙ ap (λ (n : ℕ). Some (front ++ n ∷ [])) last)
        | inr apart ↦ are.found p k child front below
            (sym (updates (pair_number p k) ∙ ap (λ (b : Bool). cond b (Some past) (get nat_eq children (pair_number p k))) (ne_eqb (pair_number parent key) (pair_number p k) apart)) ∙ there) knows
      ];
      none = λ p k child front below knows longer. elim (cases_eq child past) [
        | inl same ↦
            let mine : Knows g past (front ++ k ∷ []) = subst (λ (n : ℕ). Knows g n (front ++ k ∷ [])) same longer in
            let parts = is.front keys known in
            let both = same_from_push front parts.0 k key (some_same (sym mine ∙ known) ∙ parts.1) in
            let shape : p ≡ parent = is.only front p (mine ∙ ap (λ (n : ℕ). Some (front ++ n ∷ [])) both.1) knows in
            ap is_some (updates (pair_number p k) ∙ ap (λ (b : Bool). cond b (Some past) (get nat_eq children (pair_number p k)))
            (eq-eqb (pair_number parent key) (pair_number p k) (ap (λ (n : ℕ). pair_number n key) (sym shape) ∙ ap (pair_number p) (sym both.1))))
        | inr apart ↦ there_still (get nat_eq more (pair_number p k)) (get nat_eq children (pair_number p k)) (nat_eq (pair_number parent key) (pair_number p k)) (updates (pair_number p k)) (are.none p k child front (omega (arith, below, apart)) knows longer)
      ];
    }
      where
        there_still : (o o' : Option ℕ) (b : Bool) → o ≡ cond b (Some past) o' → is_some o' ≡ true → is_some o ≡ true
        there_still o o' true e is = ap is_some e
        there_still o o' false e is = ap is_some e ∙ is

  -- beyond the last known shape there is none
  pub children_all : (past : ℕ) (children : HashMap ℕ ℕ S) → AreChildren g past children → ((shape : ℕ) (keys : List ℕ) → Knows g shape keys → shape < past) → (all : ℕ) → AreChildren g all children
  children_all past children are above all = record {
    found = are.found;
    none = λ parent key child front below knows longer. are.none parent key child front (above child (front ++ key ∷ []) longer) knows longer;
  }

-- lists of what is known
pub lists_all : (g : Knowledge) (lists : ShapeLists) → AreListed g lists → IsAbove g (length lists) → ((bound : ℕ) → IsAbove g bound → length lists ≤ bound) → AreLists g lists
lists_all g lists listed above last = record {
  known = λ shape keys knows. slice_get-get_or lists shape [] (above shape keys knows) ∙ ap (λ (ks : List ℕ). Some ks) (listed shape (above shape keys knows) ∙ ap (λ (o : Option (List ℕ)). unwrap_or o []) knows);
  only = λ shape keys is some. by_cases shape keys is some (known_keys g.known shape) refl;
  last = last;
}
  where
    by_cases : (shape : ℕ) (keys : List ℕ) → slice_get lists shape ≡ Some keys → keys ≢ [] → (o : Option (List ℕ)) → known_keys g.known shape ≡ o → known_keys g.known shape ≡ Some keys
    by_cases shape keys is some (Some others) e = e ∙ ap (λ (ks : List ℕ). Some ks) (sym (ap (λ (o : Option (List ℕ)). unwrap_or o []) e) ∙ sym (listed shape (slice_get_within lists shape keys is)) ∙ get_or_from_slice_get lists shape keys [] is)
    by_cases shape keys is some None e = absurd (some (sym (get_or_from_slice_get lists shape keys [] is) ∙ listed shape (slice_get_within lists shape keys is) ∙ ap (λ (o : Option (List ℕ)). unwrap_or o []) e))

-- one list more
pub listed_more : (g : Knowledge) (lists : ShapeLists) (list : List ℕ) → AreListed g lists → list ≡ unwrap_or (known_keys g.known (length lists)) [] → AreListed g (lists ++ list ∷ [])
listed_more g [] list listed is = λ shape within. by_place shape within
  where
    by_place : (n : ℕ) → n < 1 → get_or (list ∷ []) n [] ≡ unwrap_or (known_keys g.known n) []
    by_place zero within = is
    by_place (suc n) within = absurd (omega (arith, within))
listed_more g (first ∷ others) list listed is = λ shape within. elim (cases_eq shape (length (first ∷ others))) [
  | inl same ↦ ap (λ (n : ℕ). get_or ((first ∷ others) ++ list ∷ []) n []) same ∙ last_is (first ∷ others) list ∙ is ∙ ap (λ (n : ℕ). unwrap_or (known_keys g.known n) []) (sym same)
  | inr apart ↦ front_is (first ∷ others) list shape (within_front (first ∷ others) list shape within apart) ∙ listed shape (within_front (first ∷ others) list shape within apart)
]
  where
    last_is : (ls : ShapeLists) (l : List ℕ) → get_or (ls ++ l ∷ []) (length ls) [] ≡ l
    last_is [] l = refl
    last_is (x ∷ xs) l = last_is xs l

    front_is : (ls : ShapeLists) (l : List ℕ) (n : ℕ) → n < length ls → get_or (ls ++ l ∷ []) n [] ≡ get_or ls n []
    front_is [] l n within = absurd (omega (arith, within))
    front_is (x ∷ xs) l zero within = refl
    front_is (x ∷ xs) l (suc n) within = front_is xs l n (omega (arith, within))

    long : (ls : ShapeLists) (l : List ℕ) → length (ls ++ l ∷ []) ≡ length ls + 1
    long [] l = refl
    long (x ∷ xs) l = let more = long xs l in omega (arith, more)

    within_front : (ls : ShapeLists) (l : List ℕ) (n : ℕ) → n < length (ls ++ l ∷ []) → n ≢ length ls → n < length ls
    within_front ls l n within apart = let more = long ls l in omega (arith, within, apart, more)

-- such lists are a table of shapes
pub shape_table_of : {S : Type 0} (lists : ShapeLists) (children : HashMap ℕ ℕ S) → IsNumbered lists children → IsShapeTable lists
shape_table_of lists children is = record {
  empty = is.by_number.known 0 [] is.holds.empty;
  short = λ k d within. by_list (λ (keys : List ℕ). length keys ≤ 64) (omega arith) is.holds.short k d within;
  distinct = λ k d within. by_list HasNoKeyTwice (λ i j e below inside. grind (arith, inside)) is.holds.distinct k d within;
}
  where
    by_list : (P : List ℕ → Type 0) → P [] → ((shape : ℕ) (keys : List ℕ) → Knows is.grower shape keys → P keys) → (k : ℕ) (d : List ℕ) → k < length lists → P (get_or lists k d)
    by_list P none some k d within = by_cases (get_or lists k d) (slice_get-get_or lists k d within)
      where
        by_cases : (keys : List ℕ) → slice_get lists k ≡ Some keys → P keys
        by_cases [] at = none
        by_cases (x ∷ xs) at = some k (x ∷ xs) (is.by_number.only k (x ∷ xs) at (λ e. grind (arith, e)))

-- children are found by the empty shape for the numbers that have no key, and by themselves for others
from_knows : (g : Knowledge) (lists : ShapeLists) (shape from : ℕ) → IsKnowledge g → AreLists g lists → shape < length lists
    → (keys_of lists shape ≡ [] → from ≡ 0) → (keys_of lists shape ≢ [] → from ≡ shape) → Knows g from (keys_of lists shape)
from_knows g lists shape from holds are within none some = by_cases (keys_of lists shape) refl
  where
    some_is : (x : ℕ) (xs : List ℕ) → keys_of lists shape ≡ x ∷ xs → keys_of lists shape ≢ []
    some_is x xs same e = let both = sym same ∙ e in grind (arith, both)

    by_cases : (keys : List ℕ) → keys_of lists shape ≡ keys → Knows g from (keys_of lists shape)
    by_cases [] same = ap (known_keys g.known) (none same) ∙ holds.empty ∙ ap (λ (ks : List ℕ). Some ks) (sym same)
    by_cases (x ∷ xs) same = ap (known_keys g.known) (some (some_is x xs same)) ∙ are.only shape (keys_of lists shape) (slice_get-get_or lists shape [] within) (some_is x xs same)

module _ {S : Type 0} (lists : ShapeLists) (children : HashMap ℕ ℕ S) (is : IsNumbered lists children) (shape key from : ℕ) (knows : Knows is.grower from (keys_of lists shape)) where
  pub child_some : (child : ℕ) → key < 2 ^ 32 → get nat_eq children (pair_number from key) ≡ Some child → slice_get lists child ≡ Some (keys_of lists shape ++ key ∷ [])
  child_some child small there = is.by_number.known child (keys_of lists shape ++ key ∷ []) ((is.by_parent 0).found from key child (keys_of lists shape) small there knows)

  pub child_none : get nat_eq children (pair_number from key) ≡ None → ¬ (Contains lists (keys_of lists shape ++ key ∷ []))
  child_none none there =
      let at : slice_get lists there.0 ≡ Some (keys_of lists shape ++ key ∷ []) = slice_get-get_or lists there.0 (keys_of lists shape ++ key ∷ []) there.1 ∙ ap (λ (ks : List ℕ). Some ks) there.2 in
      let theirs = is.by_number.only there.0 (keys_of lists shape ++ key ∷ []) at (λ e. no_push (keys_of lists shape) key (sym e)) in
      true≢false (sym ((is.by_parent (there.0 + 1)).none from key there.0 (keys_of lists shape) (omega arith) knows theirs) ∙ ap is_some none)

pub child_added : {S : Type 0} (lists : ShapeLists) (children : HashMap ℕ ℕ S) → IsNumbered lists children → (shape key from : ℕ) → shape < length lists
    → (keys_of lists shape ≡ [] → from ≡ 0) → (keys_of lists shape ≢ [] → from ≡ shape) → key < 2 ^ 32 → (o : Option ℕ) → o ≡ get nat_eq children (pair_number from key)
    → IfSome o (λ child. slice_get lists child ≡ Some (keys_of lists shape ++ key ∷ []))
child_added lists children is shape key from within none some small None e = tt
child_added lists children is shape key from within none some small (Some child) e =
    child_some lists children is shape key from (from_knows is.grower lists shape from is.holds is.by_number within none some) child small (sym e)

pub child_missing : {S : Type 0} (lists : ShapeLists) (children : HashMap ℕ ℕ S) → IsNumbered lists children → (shape key from : ℕ) → shape < length lists
    → (keys_of lists shape ≡ [] → from ≡ 0) → (keys_of lists shape ≢ [] → from ≡ shape) → (o : Option ℕ) → o ≡ get nat_eq children (pair_number from key)
    → IfNone o (¬ (Contains lists (keys_of lists shape ++ key ∷ [])))
child_missing lists children is shape key from within none some (Some child) e = tt
child_missing lists children is shape key from within none some None e =
    child_none lists children is shape key from (from_knows is.grower lists shape from is.holds is.by_number within none some) (sym e)

-- a known shape is found by its parent and its last key
pub children_linked : {S : Type 0} (g : Knowledge) (past : ℕ) (children more : HashMap ℕ ℕ S) (parent key : ℕ) → AreChildren g past children → key < 2 ^ 32 → is_some (known_keys g.known past) ≡ true
    → IsParent g past parent key → ((q : ℕ) → get nat_eq more q ≡ cond (nat_eq (pair_number parent key) q) (Some past) (get nat_eq children q)) → AreChildren g (past + 1) more
children_linked {S} g past children more parent key are small known is updates = by_cases (known_keys g.known past) refl
  where
    by_cases : (o : Option (List ℕ)) → known_keys g.known past ≡ o → AreChildren g (past + 1) more
    by_cases None e = absurd (true≢false (sym known ∙ ap is_some e))
    by_cases (Some keys) e = children_more g past children are parent key more keys small e is updates

-- places of no child
pub children_empty : {S : Type 0} (g : Knowledge) (children : HashMap ℕ ℕ S) → children.entries ≡ [] → AreChildren g 0 children
children_empty g children none = children_none g children (λ n. ap (λ (es : List (ℕ × ℕ)). lookup (nat_eq n) es) none)

-- lists that are put behind one another
pub laid_none : {V : Type 0} (g : Knowledge) (lists : List V) (f : V → List ℕ) → lists ≡ [] → (length lists ≡ 0) × AreListed g (map f lists)
laid_none {V} g lists f none = subst (λ (vs : List V). (length vs ≡ 0) × AreListed g (map f vs)) (sym none) (refl, λ shape within. absurd (omega (arith, within)))

pub laid_more : {V : Type 0} (g : Knowledge) (old new : List V) (list : V) (f : V → List ℕ) (shape : ℕ) → length old ≡ shape → AreListed g (map f old) → new ≡ old ++ list ∷ []
    → f list ≡ unwrap_or (known_keys g.known shape) [] → (length new ≡ shape + 1) × AreListed g (map f new)
laid_more {V} g old new list f shape long listed is its =
    let parts = length-append old (list ∷ []) in
    let all = ap (λ (vs : List V). length vs) is in (
      omega (arith, long, parts, all),
      subst (AreListed g) (sym (ap (map f) is ∙ map-append f old (list ∷ [])))
          (listed_more g (map f old) (f list) listed (its ∙ ap (λ (n : ℕ). unwrap_or (known_keys g.known n) []) (sym (length-map old f ∙ long)))),
    )

pub laid_all : {V : Type 0} (lists : List V) (f : V → List ℕ) (count past shape : ℕ) → length lists ≡ count → past ≤ count → shape < past → shape < length (map f lists)
laid_all lists f count past shape long enough within = let same = length-map lists f in omega (arith, long, enough, within, same)
