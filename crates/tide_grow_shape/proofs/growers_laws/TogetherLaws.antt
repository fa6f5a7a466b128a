-- What growers know together, and how it fits.
use native.Mathlib.Omega.{arith}
use Rattle.std.proofs.Common.{ℕ, zero, suc, ◌⊎◌, ◌≡◌, ◌≢◌, ◌<◌, ◌≤◌, ◌+◌, true, refl, sym, ◌∙◌, ap, subst, List, [], ◌∷◌, ◌++◌, length, get_or, inl, inr, Some, Result, Ok, Err}
use Rattle.std.proofs.lemmas.Bool.{cases_eq}
use Rattle.std.proofs.lemmas.List.{get_or_default}
use Rattle.std.proofs.lemmas.List.Elements.{All-contains, Contains-append_cases, Contains-append_left, Contains-append_right}
use Rattle.std.specs.Prelude.{All, Contains, OnOk, is_some}
use Rattle.tide_shape.specs.ShapeTable.{HasNoKeyTwice}
use Rattle.tide_grow_shape.specs.growers.Grown.{Fact, Grown, IsAbove, IsKnowledge, IsKnown, Knowledge, Knows, Table, known_keys}
use Rattle.tide_grow_shape.specs.growers.Stands.{AreOfTable, Stands}
use Rattle.tide_grow_shape.specs.growers.Tables.{shape_table_of}
use Rattle.tide_grow_shape.specs.transitions.Sights.{AreSights, edges_of}
use Rattle.tide_grow_shape.specs.transitions.Walks.{AreOfOne, Includes, Lists}
use Rattle.tide_grow_shape.specs.declared.transitions.sight.Sight.{Sight}
use Rattle.tide_grow_shape.proofs.transitions_laws.GrownLaws.{Lists-more, keys_same, shape_same}
use Rattle.tide_grow_shape.proofs.growers_laws.GrowingLaws.{knows_fact, lists_known, own_name}
use Rattle.tide_grow_shape.specs.transitions.Cells.{name_of}
use Rattle.tide_grow_shape.specs.growers.Growing.{knowledge_of}
use Rattle.tide_grow_shape.specs.declared.growers.grower.Grower.TheInside.{Inside}
use Rattle.tide_grow_shape.specs.declared.transitions.cells.Cells.{Cells}
use Rattle.tide_grow_shape.proofs.growers_laws.KnownLaws.{known_is_fact}
use Rattle.tide_grow_shape.proofs.growers_laws.ListedLaws.{fact_known, known_by}
use Rattle.tide_grow_shape.proofs.transitions_laws.PlaceLaws.{some_same}

-- what two growers know whose reads are of one table fits together
module _ (name : List ℕ) (mine others : List Sight) (facts their : List Fact) (all : Stands name mine facts) (theirs : Stands name others their) (one : AreOfOne (edges_of mine ++ edges_of others)) where
  lists_mine : (shape : ℕ) (keys : List ℕ) → known_keys facts shape ≡ Some keys → Lists (edges_of mine ++ edges_of others) shape keys
  lists_mine shape keys knows = Lists-more (λ e in_e. Contains-append_left (edges_of mine) (edges_of others) e in_e) (lists_known name mine facts all shape keys knows)

  lists_theirs : (shape : ℕ) (keys : List ℕ) → known_keys their shape ≡ Some keys → Lists (edges_of mine ++ edges_of others) shape keys
  lists_theirs shape keys knows = Lists-more (λ e in_e. Contains-append_right (edges_of mine) (edges_of others) e in_e) (lists_known name others their theirs shape keys knows)

  pub keys_agree : (shape : ℕ) (keys keys' : List ℕ) → known_keys facts shape ≡ Some keys → known_keys their shape ≡ Some keys' → keys ≡ keys'
  keys_agree shape keys keys' a b = keys_same (edges_of mine ++ edges_of others) one refl (lists_mine shape keys a) (lists_theirs shape keys' b)

  pub numbers_agree : (shape other : ℕ) (keys : List ℕ) → known_keys facts shape ≡ Some keys → known_keys their other ≡ Some keys → shape ≡ other
  numbers_agree shape other keys a b = shape_same (edges_of mine ++ edges_of others) one refl (lists_mine shape keys a) (lists_theirs other keys b)

  pub keys_own : (shape : ℕ) (keys keys' : List ℕ) → known_keys facts shape ≡ Some keys → known_keys facts shape ≡ Some keys' → keys ≡ keys'
  keys_own shape keys keys' a b = keys_same (edges_of mine ++ edges_of others) one refl (lists_mine shape keys a) (lists_mine shape keys' b)

  pub keys_theirs : (shape : ℕ) (keys keys' : List ℕ) → known_keys their shape ≡ Some keys → known_keys their shape ≡ Some keys' → keys ≡ keys'
  keys_theirs shape keys keys' a b = keys_same (edges_of mine ++ edges_of others) one refl (lists_theirs shape keys a) (lists_theirs shape keys' b)

  pub numbers_own : (shape other : ℕ) (keys : List ℕ) → known_keys facts shape ≡ Some keys → known_keys facts other ≡ Some keys → shape ≡ other
  numbers_own shape other keys a b = shape_same (edges_of mine ++ edges_of others) one refl (lists_mine shape keys a) (lists_mine other keys b)

  pub numbers_theirs : (shape other : ℕ) (keys : List ℕ) → known_keys their shape ≡ Some keys → known_keys their other ≡ Some keys → shape ≡ other
  numbers_theirs shape other keys a b = shape_same (edges_of mine ++ edges_of others) one refl (lists_theirs shape keys a) (lists_theirs other keys b)

-- one of two
two_cases : (one other x : Knowledge) → Contains (one ∷ other ∷ []) x → (one ≡ x) ⊎ (other ≡ x)
two_cases one other x in_x = by_place in_x.0 in_x.1 in_x.2
  where
    by_place : (k : ℕ) → k < 2 → get_or (one ∷ other ∷ []) k x ≡ x → (one ≡ x) ⊎ (other ≡ x)
    by_place zero within is = inl is
    by_place (suc zero) within is = inr is
    by_place (suc (suc k)) within is = absurd (omega (arith, within))

pub Grown_two : (name : List ℕ) (mine others : List Sight) (one other : Knowledge) → Stands name mine one.known → Stands name others other.known → AreOfOne (edges_of mine ++ edges_of others) → Grown (one ∷ other ∷ [])
Grown_two name mine others one other all theirs of = record {
  lists = λ x y shape keys keys' in_x in_y a b. elim (two_cases one other x in_x) [
    | inl x_one ↦ elim (two_cases one other y in_y) [
      | inl y_one ↦ keys_own name mine others one.known other.known all theirs of shape keys keys' (ap (λ (g : Knowledge). known_keys g.known shape) x_one ∙ a) (ap (λ (g : Knowledge). known_keys g.known shape) y_one ∙ b)
      | inr y_other ↦ keys_agree name mine others one.known other.known all theirs of shape keys keys' (ap (λ (g : Knowledge). known_keys g.known shape) x_one ∙ a) (ap (λ (g : Knowledge). known_keys g.known shape) y_other ∙ b)
    ]
    | inr x_other ↦ elim (two_cases one other y in_y) [
      | inl y_one ↦ sym (keys_agree name mine others one.known other.known all theirs of shape keys' keys (ap (λ (g : Knowledge). known_keys g.known shape) y_one ∙ b) (ap (λ (g : Knowledge). known_keys g.known shape) x_other ∙ a))
      | inr y_other ↦ keys_theirs name mine others one.known other.known all theirs of shape keys keys' (ap (λ (g : Knowledge). known_keys g.known shape) x_other ∙ a) (ap (λ (g : Knowledge). known_keys g.known shape) y_other ∙ b)
    ]
  ];
  numbers = λ x y shape number keys in_x in_y a b. elim (two_cases one other x in_x) [
    | inl x_one ↦ elim (two_cases one other y in_y) [
      | inl y_one ↦ numbers_own name mine others one.known other.known all theirs of shape number keys (ap (λ (g : Knowledge). known_keys g.known shape) x_one ∙ a) (ap (λ (g : Knowledge). known_keys g.known number) y_one ∙ b)
      | inr y_other ↦ numbers_agree name mine others one.known other.known all theirs of shape number keys (ap (λ (g : Knowledge). known_keys g.known shape) x_one ∙ a) (ap (λ (g : Knowledge). known_keys g.known number) y_other ∙ b)
    ]
    | inr x_other ↦ elim (two_cases one other y in_y) [
      | inl y_one ↦ sym (numbers_agree name mine others one.known other.known all theirs of number shape keys (ap (λ (g : Knowledge). known_keys g.known number) y_one ∙ b) (ap (λ (g : Knowledge). known_keys g.known shape) x_other ∙ a))
      | inr y_other ↦ numbers_theirs name mine others one.known other.known all theirs of shape number keys (ap (λ (g : Knowledge). known_keys g.known shape) x_other ∙ a) (ap (λ (g : Knowledge). known_keys g.known number) y_other ∙ b)
    ]
  ];
}

-- a grower that learned what another knows
module _ (name : List ℕ) (old now others : List Sight) (facts new their : List Fact) (was : Stands name old facts) (theirs : Stands name others their) (are : AreSights name now)
    (more : Includes (edges_of old) (edges_of now)) (kept : (f : Fact) → Contains facts f → Contains new f) (among : (f : Fact) → Contains new f → Contains (facts ++ their) f)
    (merged : Includes (edges_of others) (edges_of now)) where
  each : (P : Fact → Type 0) → All P facts → All P their → All P new
  each P mine yours k d within = elim (Contains-append_cases facts their (get_or new k d) (among (get_or new k d) (k, within, get_or_default new k (get_or new k d) d within))) [
    | inl there ↦ All-contains P facts (get_or new k d) mine there
    | inr there ↦ All-contains P their (get_or new k d) yours there
  ]

  lists_new : All (λ (f : Fact). Lists (edges_of now) f.shape f.keys) new
  lists_new = each (λ (f : Fact). Lists (edges_of now) f.shape f.keys)
      (λ k d within. Lists-more more (was.known k d within)) (λ k d within. Lists-more merged (theirs.known k d within))

  pub kept_merged : (shape : ℕ) (keys : List ℕ) → known_keys facts shape ≡ Some keys → known_keys new shape ≡ Some keys
  kept_merged shape keys knows = fact_known (edges_of now) are.one new lists_new shape keys (kept record { shape = shape; keys = keys } (known_is_fact facts shape keys knows))

  pub Stands-merged : Stands name now new
  Stands-merged = record {
    seen = are;
    empty = kept_merged 0 [] was.empty;
    known = lists_new;
    short = each (λ (f : Fact). length f.keys ≤ 64) was.short theirs.short;
    distinct = each (λ (f : Fact). HasNoKeyTwice f.keys) was.distinct theirs.distinct;
    of_table = each (λ (f : Fact). AreOfTable name f.keys) was.of_table theirs.of_table;
  }

  pub all_merged : ((f : Fact) → Contains their f → is_some (known_keys new f.shape) ≡ true) → (shape : ℕ) (keys : List ℕ) → known_keys their shape ≡ Some keys → known_keys new shape ≡ Some keys
  all_merged some shape keys knows = known_by (edges_of now) are.one new lists_new shape keys (some record { shape = shape; keys = keys } (known_is_fact their shape keys knows))
      (Lists-more merged (lists_known name others their theirs shape keys knows))

  pub only_merged : (shape : ℕ) (keys : List ℕ) → known_keys new shape ≡ Some keys → (known_keys facts shape ≡ Some keys) ⊎ (known_keys their shape ≡ Some keys)
  only_merged shape keys knows = elim (Contains-append_cases facts their (record { shape = shape; keys = keys }) (among record { shape = shape; keys = keys } (known_is_fact new shape keys knows))) [
    | inl there ↦ inl (knows_fact name old facts was shape keys there)
    | inr there ↦ inr (knows_fact name others their theirs shape keys there)
  ]

-- one fact alone
abbrev alone : ℕ → List ℕ → List Fact
alone shape keys = record { shape = shape; keys = keys } ∷ []

-- so many growers were merged by one
pub record MergesGrowers (of : Table) (all : Knowledge) (growers : List Knowledge) (merged : ℕ) : Type 0 where
  pub table : all.table ≡ of
  pub known : (k : ℕ) (d : Knowledge) (shape : ℕ) (keys : List ℕ) → k < merged → k < length growers → Knows (get_or growers k d) shape keys → Knows all shape keys
  pub only : (shape : ℕ) (keys : List ℕ) → Knows all shape keys → keys ≢ [] → IsKnown growers shape keys

alone_at : (shape : ℕ) (keys : List ℕ) (k : ℕ) → k < 1 → get_or (alone 0 []) k (record { shape = shape; keys = keys }) ≡ record { shape = shape; keys = keys } → keys ≡ []
alone_at shape keys zero within is = sym (ap (λ (f : Fact). f.keys) is)
alone_at shape keys (suc k) within is = absurd (omega (arith, within))

alone_keys : (shape : ℕ) (keys : List ℕ) → Contains (alone 0 []) record { shape = shape; keys = keys } → keys ≡ []
alone_keys shape keys there = alone_at shape keys there.0 there.1 there.2

pub merges_nobody : (of : Table) (all : Knowledge) (growers : List Knowledge) → all.table ≡ of → all.known ≡ record { shape = 0; keys = [] } ∷ [] → MergesGrowers of all growers 0
merges_nobody of all growers table known = record {
  table = table;
  known = λ k d shape keys below within knows. absurd (omega (arith, below));
  only = λ shape keys knows some. absurd (some (alone_keys shape keys (subst (λ (fs : List Fact). Contains fs record { shape = shape; keys = keys }) known (known_is_fact all.known shape keys knows))));
}

pub merges_one : (of : Table) (all new : Knowledge) (growers : List Knowledge) (at : ℕ) (g : Knowledge) → MergesGrowers of all growers at → new.table ≡ all.table
    → at < length growers → g ≡ get_or growers at g
    → ((shape : ℕ) (keys : List ℕ) → Knows all shape keys → Knows new shape keys)
    → ((shape : ℕ) (keys : List ℕ) → Knows g shape keys → Knows new shape keys)
    → ((shape : ℕ) (keys : List ℕ) → Knows new shape keys → Knows all shape keys ⊎ Knows g shape keys)
    → MergesGrowers of new growers (at + 1)
merges_one of all new growers at g h table within read kept merged only = record {
  table = table ∙ h.table;
  known = λ k d shape keys below inside knows. elim (cases_eq k at) [
    | inl same ↦ merged shape keys (subst (λ (t : Knowledge). Knows t shape keys) (sym (read ∙ sym (ap (λ (i : ℕ). get_or growers i g) same) ∙ get_or_default growers k g d inside)) knows)
    | inr apart ↦ kept shape keys (h.known k d shape keys (omega (arith, below, apart)) inside knows)
  ];
  only = λ shape keys knows some. elim (only shape keys knows) [
    | inl was ↦ h.only shape keys was some
    | inr its ↦ (g, (at, within, sym read), its)
  ];
}

-- at the end each was
pub merges_each : (of : Table) (all : Knowledge) (growers : List Knowledge) (merged : ℕ) → MergesGrowers of all growers merged → length growers ≤ merged
    → (g : Knowledge) (shape : ℕ) (keys : List ℕ) → Contains growers g → Knows g shape keys → Knows all shape keys
merges_each of all growers merged h enough g shape keys there knows =
    h.known there.0 g shape keys (let within = there.1 in omega (arith, within, enough)) there.1 (subst (λ (t : Knowledge). Knows t shape keys) (sym there.2) knows)

-- growers of which one knows what all know fit together
pub Grown_all : (growers : List Knowledge) (all : Knowledge) → IsKnowledge all → ((g : Knowledge) (shape : ℕ) (keys : List ℕ) → Contains growers g → Knows g shape keys → Knows all shape keys) → Grown growers
Grown_all growers all holds merged = record {
  lists = λ one other shape keys others in_one in_other a b. some_same (sym (merged one shape keys in_one a) ∙ merged other shape others in_other b);
  numbers = λ one other shape number keys in_one in_other a b. holds.number shape number keys (merged one shape keys in_one a) (merged other number keys in_other b);
}

-- a number above those that each of some growers knows is above those that are known together
pub above_all : (growers : List Knowledge) (all : Knowledge) (bound : ℕ) → IsKnowledge all → ((shape : ℕ) (keys : List ℕ) → Knows all shape keys → keys ≢ [] → IsKnown growers shape keys)
    → 0 < bound → All (λ g. IsAbove g bound) growers → IsAbove all bound
above_all growers all bound holds only some above shape [] knows = subst (λ (n : ℕ). n < bound) (holds.number 0 shape [] holds.empty knows) some
above_all growers all bound holds only some above shape (x ∷ xs) knows =
    let is = only shape (x ∷ xs) knows (λ e. grind (arith, e)) in All-contains (λ g. IsAbove g bound) growers is.0 above is.1 shape (x ∷ xs) is.2

-- what follows where a call succeeded
pub merged_on : {A E P Q : Type 0} (r : Result A E) → OnOk r P → (P → Q) → OnOk r Q
merged_on (Ok x) is then = then is
merged_on (Err e) is then = tt

-- what two growers know fits together
pub Grown_of : (name : List ℕ) (g h : Inside) (k l : Knowledge) → knowledge_of g ≡ k → knowledge_of h ≡ l → Stands name g.maker.sights g.maker.known → Stands name h.maker.sights h.maker.known
    → AreOfOne (edges_of g.maker.sights ++ edges_of h.maker.sights) → Grown (k ∷ l ∷ [])
Grown_of name g h k l is_k is_l mine theirs one = subst (λ (x : Knowledge). Grown (x ∷ l ∷ [])) is_k (subst (λ (y : Knowledge). Grown (knowledge_of g ∷ y ∷ [])) is_l
    (Grown_two name g.maker.sights h.maker.sights (knowledge_of g) (knowledge_of h) mine theirs one))

-- a grower of a table stands by the table's name
pub stands_by : (g : Inside) (k : Knowledge) (cells : Cells) (t : Table) → knowledge_of g ≡ k → shape_table_of (name_of cells) ≡ t → k.table ≡ t
    → Stands g.table.numbers g.maker.sights g.maker.known → Stands (name_of cells) g.maker.sights g.maker.known
stands_by g k cells t is of own stands = subst (λ (name : List ℕ). Stands name g.maker.sights g.maker.known) (own_name g k cells t is of own) stands
