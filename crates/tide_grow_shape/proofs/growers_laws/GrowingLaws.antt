-- How a grower comes to know more, and what it knows by that.
use native.Mathlib.Omega.{arith}
use Rattle.std.proofs.Common.{ℕ, ◌≡◌, ◌≢◌, ◌≤◌, ◌<◌, Bool, true, false, cond, refl, sym, ◌∙◌, ap, subst, List, [], ◌∷◌, ◌++◌, length, inl, inr, Option, None, Some, Result, Ok, Err, length-append}
use Rattle.std.proofs.lemmas.Bool.{cases_eq}
use Rattle.std.proofs.lemmas.List.{get_or_default}
use Rattle.std.proofs.lemmas.List.Quantifiers.{all_pairs_push}
use Rattle.std.proofs.lemmas.List.Elements.{All-contains, All-nil, All-push, All-weaker}
use Rattle.std.specs.Prelude.{IfOk, Contains, OnErr, OnOk, is_some}
use Rattle.tide_shape.specs.ShapeTable.{HasNoKeyTwice}
use Rattle.tide_grow_shape.specs.growers.Grown.{Fact, Knowledge, IsKnowledge, Table, known_keys, learned}
use Rattle.tide_grow_shape.specs.transitions.Cells.{keys_in, last_in, name_of}
use Rattle.tide_grow_shape.specs.declared.transitions.cells.Cells.{Cells}
use Rattle.tide_grow_shape.specs.growers.Growing.{IsGrower, knowledge_of}
use Rattle.tide_grow_shape.specs.growers.Stands.{AreOfTable, Stands}
use Rattle.tide_grow_shape.specs.growers.Tables.{shape_table_of}
use Rattle.tide_grow_shape.specs.transitions.Sights.{AreSights, edges_of}
use Rattle.tide_grow_shape.specs.transitions.Walks.{Finds, first_of, Includes, Lists, empty, longer}
use Rattle.tide_grow_shape.specs.declared.transitions.sight.Sight.{Sight}
use Rattle.tide_grow_shape.specs.declared.growers.grower.Grower.TheInside.{Inside}
use Rattle.tide_grow_shape.proofs.transitions_laws.GrownLaws.{Finds-end, Lists-more, keys_same, shape_same}
use Rattle.tide_grow_shape.proofs.growers_laws.KnownLaws.{known_is_fact, known_others, known_push, none_some}
use Rattle.tide_grow_shape.proofs.growers_laws.ListedLaws.{lists_fact, known_by, fact_known}
use Rattle.tide_grow_shape.proofs.transitions_laws.SightLaws.{AreSights-nothing, named_within}

-- the empty shape alone
pub Stands-empty : (name : List ℕ) → Stands name [] (record { shape = 0; keys = [] } ∷ [])
Stands-empty name = record {
  seen = AreSights-nothing name;
  empty = refl;
  known = All-push (λ (f : Fact). Lists [] f.shape f.keys) [] (record { shape = 0; keys = [] }) (All-nil (λ (f : Fact). Lists [] f.shape f.keys)) (empty refl refl);
  short = All-push (λ (f : Fact). length f.keys ≤ 64) [] (record { shape = 0; keys = [] }) (All-nil (λ (f : Fact). length f.keys ≤ 64)) (omega arith);
  distinct = All-push (λ (f : Fact). HasNoKeyTwice f.keys) [] (record { shape = 0; keys = [] }) (All-nil (λ (f : Fact). HasNoKeyTwice f.keys)) (λ i j d below within. grind (arith, within));
  of_table = All-push (λ (f : Fact). AreOfTable name f.keys) [] (record { shape = 0; keys = [] }) (All-nil (λ (f : Fact). AreOfTable name f.keys)) (All-nil (λ (k : ℕ). k < keys_in name));
}

-- more that was read leaves what is known
pub Stands-more : (name : List ℕ) (sights more : List Sight) (facts : List Fact) → Stands name sights facts → AreSights name more → Includes (edges_of sights) (edges_of more) → Stands name more facts
Stands-more name sights more facts all are includes = record {
  seen = are;
  empty = all.empty;
  known = All-weaker (λ (f : Fact). Lists (edges_of sights) f.shape f.keys) (λ (f : Fact). Lists (edges_of more) f.shape f.keys) (λ f. Lists-more includes) facts all.known;
  short = all.short;
  distinct = all.distinct;
  of_table = all.of_table;
}

-- a shape that has keys by what was read of a table has none of its numbers above the highest
lists_within : (name : List ℕ) (sights : List Sight) → AreSights name sights → {shape : ℕ} {keys : List ℕ} → Lists (edges_of sights) shape keys → shape ≤ last_in name
lists_within name sights are (empty first none) = omega (arith, first)
lists_within name sights are (longer p front k lists finds is) = let end = Finds-end finds in subst (λ (n : ℕ). n ≤ last_in name) end.names (named_within name sights are end.edge end.seen)

module _ (name : List ℕ) (sights : List Sight) (facts : List Fact) (all : Stands name sights facts) where
  -- a known shape has its keys by what was read
  pub lists_known : (shape : ℕ) (keys : List ℕ) → known_keys facts shape ≡ Some keys → Lists (edges_of sights) shape keys
  lists_known = lists_fact (edges_of sights) all.seen.one facts all.known

  pub short_known : (shape : ℕ) (keys : List ℕ) → known_keys facts shape ≡ Some keys → length keys ≤ 64
  short_known shape keys is = All-contains (λ (f : Fact). length f.keys ≤ 64) facts record { shape = shape; keys = keys } all.short (known_is_fact facts shape keys is)

  pub distinct_known : (shape : ℕ) (keys : List ℕ) → known_keys facts shape ≡ Some keys → HasNoKeyTwice keys
  distinct_known shape keys is = All-contains (λ (f : Fact). HasNoKeyTwice f.keys) facts record { shape = shape; keys = keys } all.distinct (known_is_fact facts shape keys is)

  pub of_table_known : (shape : ℕ) (keys : List ℕ) → known_keys facts shape ≡ Some keys → AreOfTable name keys
  of_table_known shape keys is = All-contains (λ (f : Fact). AreOfTable name f.keys) facts record { shape = shape; keys = keys } all.of_table (known_is_fact facts shape keys is)

  pub within_known : (shape : ℕ) (keys : List ℕ) → known_keys facts shape ≡ Some keys → shape ≤ last_in name
  within_known shape keys is = lists_within name sights all.seen (lists_known shape keys is)

  -- a known shape that has some keys by what was read is known with these
  pub known_as : (shape : ℕ) (keys : List ℕ) → is_some (known_keys facts shape) ≡ true → Lists (edges_of sights) shape keys → known_keys facts shape ≡ Some keys
  known_as = known_by (edges_of sights) all.seen.one facts all.known

  -- a fact is known
  pub knows_fact : (shape : ℕ) (keys : List ℕ) → Contains facts record { shape = shape; keys = keys } → known_keys facts shape ≡ Some keys
  knows_fact = fact_known (edges_of sights) all.seen.one facts all.known

  -- the child that a walk found under a known shape has its keys and one more
  pub lists_longer : (shape key child : ℕ) (keys more : List ℕ) → known_keys facts shape ≡ Some keys → Finds (edges_of sights) shape key (first_of shape) child → more ≡ keys ++ key ∷ [] → Lists (edges_of sights) child more
  lists_longer shape key child keys more is finds same = longer shape keys key (lists_known shape keys is) finds same

  module _ (shape : ℕ) (keys : List ℕ) (lists : Lists (edges_of sights) shape keys) where
    -- a shape that was learned is known, and what was known stays
    pub knows_learned : known_keys (learned facts shape keys) shape ≡ Some keys
    knows_learned = by_cases (known_keys facts shape) refl
      where
        by_cases : (o : Option (List ℕ)) → known_keys facts shape ≡ o → known_keys (learned facts shape keys) shape ≡ Some keys
        by_cases None e = ap (λ (o : Option (List ℕ)). known_keys (cond (is_some o) facts (facts ++ record { shape = shape; keys = keys } ∷ [])) shape) e ∙ known_push facts shape keys e
        by_cases (Some others) e = ap (λ (o : Option (List ℕ)). known_keys (cond (is_some o) facts (facts ++ record { shape = shape; keys = keys } ∷ [])) shape) e ∙ known_as shape keys (ap is_some e) lists

    pub Stands-learned : length keys ≤ 64 → HasNoKeyTwice keys → AreOfTable name keys → Stands name sights (learned facts shape keys)
    Stands-learned short distinct own = by_cases (known_keys facts shape) refl
      where
        by_cases : (o : Option (List ℕ)) → known_keys facts shape ≡ o → Stands name sights (learned facts shape keys)
        by_cases (Some others) e = subst (λ (o : Option (List ℕ)). Stands name sights (cond (is_some o) facts (facts ++ record { shape = shape; keys = keys } ∷ []))) (sym e) all
        by_cases None e = subst (λ (o : Option (List ℕ)). Stands name sights (cond (is_some o) facts (facts ++ record { shape = shape; keys = keys } ∷ []))) (sym e) record {
          seen = all.seen;
          empty = known_others facts shape 0 keys (λ same. none_some (sym e ∙ ap (known_keys facts) (sym same) ∙ all.empty)) ∙ all.empty;
          known = All-push (λ (f : Fact). Lists (edges_of sights) f.shape f.keys) facts (record { shape = shape; keys = keys }) all.known lists;
          short = All-push (λ (f : Fact). length f.keys ≤ 64) facts (record { shape = shape; keys = keys }) all.short short;
          distinct = All-push (λ (f : Fact). HasNoKeyTwice f.keys) facts (record { shape = shape; keys = keys }) all.distinct distinct;
          of_table = All-push (λ (f : Fact). AreOfTable name f.keys) facts (record { shape = shape; keys = keys }) all.of_table own;
        }

-- learning a shape changes no other
pub others_learned : (facts : List Fact) (shape : ℕ) (keys : List ℕ) (other : ℕ) → other ≢ shape → known_keys (learned facts shape keys) other ≡ known_keys facts other
others_learned facts shape keys other apart = by_cases (is_some (known_keys facts shape))
  where
    by_cases : (b : Bool) → known_keys (cond b facts (facts ++ record { shape = shape; keys = keys } ∷ [])) other ≡ known_keys facts other
    by_cases true = refl
    by_cases false = known_others facts shape other keys apart

-- and leaves what was known
pub kept_learned : (facts : List Fact) (shape : ℕ) (keys : List ℕ) (other : ℕ) (others : List ℕ) → known_keys facts other ≡ Some others → known_keys (learned facts shape keys) other ≡ Some others
kept_learned facts shape keys other others is = elim (cases_eq other shape) [
  | inl same ↦ ap (λ (o : Option (List ℕ)). known_keys (cond (is_some o) facts (facts ++ record { shape = shape; keys = keys } ∷ [])) other) (ap (known_keys facts) (sym same) ∙ is) ∙ is
  | inr apart ↦ others_learned facts shape keys other apart ∙ is
]

-- the keys of a child
pub grown_short : (keys more : List ℕ) (key : ℕ) → more ≡ keys ++ key ∷ [] → length keys < 64 → length more ≤ 64
grown_short keys more key is below = let long = ap (λ (xs : List ℕ). length xs) is in let parts = length-append keys (key ∷ []) in omega (arith, below, long, parts)

pub grown_of_table : (name keys more : List ℕ) (key : ℕ) → more ≡ keys ++ key ∷ [] → AreOfTable name keys → key < keys_in name → AreOfTable name more
grown_of_table name keys more key is own small = subst (AreOfTable name) (sym is) (All-push (λ (k : ℕ). k < keys_in name) keys key own small)

pub grown_distinct : (keys more : List ℕ) (key : ℕ) → more ≡ keys ++ key ∷ [] → HasNoKeyTwice keys → (¬ (Contains keys key)) → HasNoKeyTwice more
grown_distinct keys more key is distinct lacks = subst HasNoKeyTwice (sym is)
    (all_pairs_push (λ (a b : ℕ). a ≢ b) keys key distinct (λ k d within same. lacks (k, within, get_or_default keys k key d within ∙ same)))

-- what a grower knows by itself
pub IsKnowledge_grower : (g : Inside) → IsGrower g → IsKnowledge (knowledge_of g)
IsKnowledge_grower g is = record {
  empty = is.stands.empty;
  none = λ keys knows. keys_same (edges_of g.maker.sights) is.stands.seen.one refl (lists_known g.table.numbers g.maker.sights g.maker.known is.stands 0 keys knows) (empty refl refl);
  short = short_known g.table.numbers g.maker.sights g.maker.known is.stands;
  distinct = distinct_known g.table.numbers g.maker.sights g.maker.known is.stands;
  number = λ shape other keys one two. shape_same (edges_of g.maker.sights) is.stands.seen.one refl (lists_known g.table.numbers g.maker.sights g.maker.known is.stands shape keys one) (lists_known g.table.numbers g.maker.sights g.maker.known is.stands other keys two);
  last = within_known g.table.numbers g.maker.sights g.maker.known is.stands;
  of_table = of_table_known g.table.numbers g.maker.sights g.maker.known is.stands;
}

pub Stands_new : (name : List ℕ) (sights : List Sight) (facts : List Fact) → sights ≡ [] → facts ≡ record { shape = 0; keys = [] } ∷ [] → Stands name sights facts
Stands_new name sights facts none alone = subst (λ (ss : List Sight). Stands name ss facts) (sym none) (subst (λ (fs : List Fact). Stands name [] fs) (sym alone) (Stands-empty name))

-- with a shape learned, or not
module _ {A E : Type 0} (r : Result A E) (facts new : List Fact) (shape : ℕ) (keys : List ℕ) (ok : OnOk r (new ≡ learned facts shape keys)) (err : OnErr r (new ≡ facts)) where
  new_is : (P : List Fact → Type 0) → P (learned facts shape keys) → P facts → P new
  new_is P more same = by_cases r ok err
    where
      by_cases : (q : Result A E) → OnOk q (new ≡ learned facts shape keys) → OnErr q (new ≡ facts) → P new
      by_cases (Ok x) is other = subst P (sym is) more
      by_cases (Err x) other is = subst P (sym is) same

  pub Stands_learned_either : (name : List ℕ) (sights : List Sight) → Stands name sights facts → Lists (edges_of sights) shape keys → length keys ≤ 64 → HasNoKeyTwice keys → AreOfTable name keys → Stands name sights new
  Stands_learned_either name sights all lists short distinct own = new_is (λ fs. Stands name sights fs) (Stands-learned name sights facts all shape keys lists short distinct own) all

  pub kept_learned_either : (other : ℕ) (others : List ℕ) → known_keys facts other ≡ Some others → known_keys new other ≡ Some others
  kept_learned_either other others is = new_is (λ fs. known_keys fs other ≡ Some others) (kept_learned facts shape keys other others is) is

  pub others_learned_either : (other : ℕ) → other ≢ shape → known_keys new other ≡ known_keys facts other
  others_learned_either other apart = new_is (λ fs. known_keys fs other ≡ known_keys facts other) (others_learned facts shape keys other apart) refl

  pub knows_learned_either : (name : List ℕ) (sights : List Sight) → Stands name sights facts → Lists (edges_of sights) shape keys → OnOk r (known_keys new shape ≡ Some keys)
  knows_learned_either name sights all lists = by_cases r ok
    where
      by_cases : (q : Result A E) → OnOk q (new ≡ learned facts shape keys) → OnOk q (known_keys new shape ≡ Some keys)
      by_cases (Ok x) is = ap (λ (fs : List Fact). known_keys fs shape) is ∙ knows_learned name sights facts all shape keys lists
      by_cases (Err x) is = tt

-- what a child of a known shape has
module _ (name : List ℕ) (sights : List Sight) (facts : List Fact) (all : Stands name sights facts) (shape key : ℕ) (more : List ℕ) (known : known_keys facts shape ≢ None) where
  with_keys : (P : Type 0) → ((keys : List ℕ) → known_keys facts shape ≡ Some keys → P) → P
  with_keys P then = by_cases (known_keys facts shape) refl
    where
      by_cases : (o : Option (List ℕ)) → known_keys facts shape ≡ o → P
      by_cases None e = absurd (known e)
      by_cases (Some keys) e = then keys e

  pub grown_lists : (child : ℕ) (now : List Sight) → Includes (edges_of sights) (edges_of now) → ((keys : List ℕ) → known_keys facts shape ≡ Some keys → more ≡ keys ++ key ∷ [])
      → Finds (edges_of now) shape key (first_of shape) child → Lists (edges_of now) child more
  grown_lists child now includes same finds = with_keys (Lists (edges_of now) child more)
      (λ keys is. longer shape keys key (Lists-more includes (lists_known name sights facts all shape keys is)) finds (same keys is))

  pub grown_of_table_of : key < keys_in name → ((keys : List ℕ) → known_keys facts shape ≡ Some keys → (more ≡ keys ++ key ∷ []) × (length keys < 64) × (¬ (Contains keys key))) → AreOfTable name more
  grown_of_table_of small same = with_keys (AreOfTable name more) (λ keys is. grown_of_table name keys more key (same keys is).0 (of_table_known name sights facts all shape keys is) small)

  pub grown_distinct_of : ((keys : List ℕ) → known_keys facts shape ≡ Some keys → (more ≡ keys ++ key ∷ []) × (length keys < 64) × (¬ (Contains keys key))) → HasNoKeyTwice more
  grown_distinct_of same = with_keys (HasNoKeyTwice more) (λ keys is. let it = same keys is in grown_distinct keys more key it.0 (distinct_known name sights facts all shape keys is) it.2)

pub grown_short_of : (facts : List Fact) (shape key : ℕ) (more : List ℕ) → known_keys facts shape ≢ None
    → ((keys : List ℕ) → known_keys facts shape ≡ Some keys → (more ≡ keys ++ key ∷ []) × (length keys < 64) × (¬ (Contains keys key))) → length more ≤ 64
grown_short_of facts shape key more known same = by_cases (known_keys facts shape) refl
  where
    by_cases : (o : Option (List ℕ)) → known_keys facts shape ≡ o → length more ≤ 64
    by_cases None e = absurd (known e)
    by_cases (Some keys) e = let it = same keys e in grown_short keys more key it.0 it.1

-- a grower's table is the one of its name
pub own_name : (g : Inside) (k : Knowledge) (cells : Cells) (t : Table) → knowledge_of g ≡ k → shape_table_of (name_of cells) ≡ t → k.table ≡ t → g.table.numbers ≡ name_of cells
own_name g k cells t is of own = ap (λ (x : Knowledge). x.table.name) is ∙ ap (λ (x : Table). x.name) (own ∙ sym of)

-- a child that has its parent's keys and one more is known
pub known_child : {E : Type 0} (facts new : List Fact) (shape key : ℕ) (r : Result ℕ E) → known_keys facts shape ≢ None
    → IfOk r (λ child. (keys : List ℕ) → known_keys facts shape ≡ Some keys → known_keys new child ≡ Some (keys ++ key ∷ [])) → IfOk r (λ child. known_keys new child ≢ None)
known_child facts new shape key (Err e) known found = tt
known_child facts new shape key (Ok child) known found = λ none. by_cases none (known_keys facts shape) refl
  where
    by_cases : known_keys new child ≡ None → (o : Option (List ℕ)) → known_keys facts shape ≡ o → ⊥
    by_cases none None e = known e
    by_cases none (Some keys) e = none_some (sym none ∙ found keys e)
