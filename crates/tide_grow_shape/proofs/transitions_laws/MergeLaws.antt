-- What growers of one table read is of one table.
use native.Mathlib.Omega.{arith}
use Rattle.std.proofs.Common.{ℕ, ◌≡◌, ◌<◌, ◌≤◌, ◌+◌, sym, ◌∙◌, ap, subst, List, [], ◌∷◌, ◌++◌, length, get_or, inl, inr}
use Rattle.std.proofs.lemmas.Bool.{cases_eq}
use Rattle.std.proofs.lemmas.List.{get_or_default}
use Rattle.std.proofs.lemmas.List.Elements.{All-contains, All-map, Contains-append_cases, Contains-append_left, Contains-push}
use Rattle.std.specs.Prelude.{All, Contains}
use Rattle.tide_grow_shape.specs.transitions.Walks.{Edge, AreOfOne, Includes}
use Rattle.tide_grow_shape.specs.transitions.Sights.{AreSights, edge_of, edges_of}
use Rattle.tide_grow_shape.specs.declared.transitions.sight.Sight.{Sight}
use Rattle.tide_grow_shape.proofs.transitions_laws.SightLaws.{seen_of}

-- what one sight more is of one table with
abbrev With : List Sight → Sight → Type 0
With mine s = AreOfOne (edges_of mine ++ edge_of s ∷ [])

-- each of so many sights is of one table with what was read
pub record Agrees (mine others : List Sight) (merged : ℕ) : Type 0 where
  pub each : (k : ℕ) (d : Sight) → k < merged → k < length others → AreOfOne (edges_of mine ++ edge_of (get_or others k d) ∷ [])

pub agrees_none : (mine others : List Sight) → Agrees mine others 0
agrees_none mine others = record { each = λ k d below within. absurd (omega (arith, below)) }

pub agrees_more : (mine others : List Sight) (at : ℕ) (s : Sight) → Agrees mine others at → s ≡ get_or others at s → AreOfOne (edges_of mine ++ edge_of s ∷ []) → Agrees mine others (at + 1)
agrees_more mine others at s a read one = record {
  each = λ k d below within. elim (cases_eq k at) [
    | inl same ↦ subst (With mine) (read ∙ sym (ap (λ (i : ℕ). get_or others i s) same) ∙ get_or_default others k s d within) one
    | inr apart ↦ a.each k d (omega (arith, below, apart)) within
  ];
}

-- then all of them are
pub agrees_all : (name : List ℕ) (mine others : List Sight) (merged : ℕ) → AreSights name mine → AreSights name others → Agrees mine others merged → length others ≤ merged → AreOfOne (edges_of mine ++ edges_of others)
agrees_all name mine others merged are theirs a enough = record {
  spots = λ x y in_x in_y same. elim (Contains-append_cases (edges_of mine) (edges_of others) x in_x) [
    | inl x_mine ↦ elim (Contains-append_cases (edges_of mine) (edges_of others) y in_y) [
      | inl y_mine ↦ are.one.spots x y x_mine y_mine same
      | inr y_other ↦ (both y y_other).spots x y (old y x x_mine) (new y) same
    ]
    | inr x_other ↦ elim (Contains-append_cases (edges_of mine) (edges_of others) y in_y) [
      | inl y_mine ↦ (both x x_other).spots x y (new x) (old x y y_mine) same
      | inr y_other ↦ theirs.one.spots x y x_other y_other same
    ]
  ];
  parents = λ x y in_x in_y same. elim (Contains-append_cases (edges_of mine) (edges_of others) x in_x) [
    | inl x_mine ↦ elim (Contains-append_cases (edges_of mine) (edges_of others) y in_y) [
      | inl y_mine ↦ are.one.parents x y x_mine y_mine same
      | inr y_other ↦ (both y y_other).parents x y (old y x x_mine) (new y) same
    ]
    | inr x_other ↦ elim (Contains-append_cases (edges_of mine) (edges_of others) y in_y) [
      | inl y_mine ↦ (both x x_other).parents x y (new x) (old x y y_mine) same
      | inr y_other ↦ theirs.one.parents x y x_other y_other same
    ]
  ];
  keys = λ x y in_x in_y same. elim (Contains-append_cases (edges_of mine) (edges_of others) x in_x) [
    | inl x_mine ↦ elim (Contains-append_cases (edges_of mine) (edges_of others) y in_y) [
      | inl y_mine ↦ are.one.keys x y x_mine y_mine same
      | inr y_other ↦ (both y y_other).keys x y (old y x x_mine) (new y) same
    ]
    | inr x_other ↦ elim (Contains-append_cases (edges_of mine) (edges_of others) y in_y) [
      | inl y_mine ↦ (both x x_other).keys x y (new x) (old x y y_mine) same
      | inr y_other ↦ theirs.one.keys x y x_other y_other same
    ]
  ];
  some = λ x in_x. elim (Contains-append_cases (edges_of mine) (edges_of others) x in_x) [
    | inl x_mine ↦ are.one.some x x_mine
    | inr x_other ↦ theirs.one.some x x_other
  ];
}
  where
    each : All (With mine) others
    each k d within = a.each k d (omega (arith, within, enough)) within

    both : (e : Edge) → Contains (edges_of others) e → AreOfOne (edges_of mine ++ e ∷ [])
    both e in_e = let of = seen_of others e in_e in subst (λ (x : Edge). AreOfOne (edges_of mine ++ x ∷ [])) of.is (All-contains (With mine) others of.sight each of.there)

    old : (e x : Edge) → Contains (edges_of mine) x → Contains (edges_of mine ++ e ∷ []) x
    old e x in_x = Contains-append_left (edges_of mine) (e ∷ []) x in_x

    new : (e : Edge) → Contains (edges_of mine ++ e ∷ []) e
    new e = Contains-push (edges_of mine) e

-- so many of another grower's sights were merged
pub record Merges (name : List ℕ) (old now others : List Sight) (merged : ℕ) : Type 0 where
  pub sights : AreSights name now
  pub more : Includes (edges_of old) (edges_of now)
  pub edges : (k : ℕ) (d : Sight) → k < merged → k < length others → Contains (edges_of now) (edge_of (get_or others k d))

pub merges_none : (name : List ℕ) (old others : List Sight) → AreSights name old → Merges name old old others 0
merges_none name old others are = record { sights = are; more = λ e in_e. in_e; edges = λ k d below within. absurd (omega (arith, below)) }

pub merges_more : (name : List ℕ) (old now new others : List Sight) (at : ℕ) (s : Sight) → Merges name old now others at → AreSights name new
    → Includes (edges_of now) (edges_of new) → s ≡ get_or others at s → Contains (edges_of new) (edge_of s) → Merges name old new others (at + 1)
merges_more name old now new others at s h are more read merged = record {
  sights = are;
  more = λ e in_e. more e (h.more e in_e);
  edges = λ k d below within. elim (cases_eq k at) [
    | inl same ↦ subst (λ (t : Sight). Contains (edges_of new) (edge_of t)) (read ∙ sym (ap (λ (i : ℕ). get_or others i s) same) ∙ get_or_default others k s d within) merged
    | inr apart ↦ more (edge_of (get_or others k d)) (h.edges k d (omega (arith, below, apart)) within)
  ];
}

-- at the end all were
pub merges_all : (name : List ℕ) (old now others : List Sight) (merged : ℕ) → Merges name old now others merged → length others ≤ merged → Includes (edges_of others) (edges_of now)
merges_all name old now others merged h enough e in_e = All-contains (λ (e : Edge). Contains (edges_of now) e) (edges_of others) e
    (All-map (λ (e : Edge). Contains (edges_of now) e) edge_of others (λ k d within. h.edges k d (omega (arith, within, enough)) within)) in_e
