-- What sights tell, and what follows for one more.
use Rattle.std.proofs.Common.{ℕ, ◌≡◌, ◌≢◌, ◌<◌, ◌≤◌, Bool, refl, sym, ◌∙◌, ap, subst, List, [], ◌∷◌, ◌++◌, length, map, get_or, None, Some, Result, Ok, Err}
use Rattle.std.proofs.lemmas.List.{map-append, length-map, get_or-map}
use Rattle.std.proofs.lemmas.List.Elements.{All-contains, All-map, All-contains_itself, All-nil, All-push, All-weaker, Contains-append_left, Contains-push}
use Rattle.std.specs.Prelude.{All, Contains, OnOk, OnErr}
use Rattle.tide_grow_shape.specs.transitions.Walks.{Spot, Edge, AreOfOne, Includes}
use Rattle.tide_grow_shape.specs.transitions.Sights.{AreSights, IsSight, IsOf, cell_number, edge_of, edges_of}
use Rattle.tide_grow_shape.specs.transitions.Cells.{last_in}
use Rattle.tide_grow_shape.specs.transitions.Places.{place_of}
use Rattle.tide_grow_shape.proofs.transitions_laws.CellLaws.{cell_number-next, cell_number-shape}
use Rattle.tide_grow_shape.proofs.transitions_laws.PlaceLaws.{place_of_is, place_of_none, place_of_within}
use Rattle.tide_grow_shape.specs.declared.transitions.sight.Sight.{Sight}
use Rattle.tide_grow_shape.proofs.transitions_laws.EdgeLaws.{AreOfOne-nothing}

pub AreSights-nothing : (name : List ℕ) → AreSights name []
AreSights-nothing name = record { read = All-nil (IsSight name); one = AreOfOne-nothing }

pub edges_push : (sights : List Sight) (s : Sight) → edges_of (sights ++ s ∷ []) ≡ edges_of sights ++ edge_of s ∷ []
edges_push sights s = map-append edge_of sights (s ∷ [])

pub AreSights-push : (name : List ℕ) (sights : List Sight) (s : Sight) → AreSights name sights → IsSight name s → AreOfOne (edges_of sights ++ edge_of s ∷ []) → AreSights name (sights ++ s ∷ [])
AreSights-push name sights s are is one = record { read = All-push (IsSight name) sights s are.read is; one = subst AreOfOne (sym (edges_push sights s)) one }

-- with one sight more, or with none
pub AreSights_either : {A E : Type 0} (r : Result A E) (name : List ℕ) (sights new : List Sight) (s : Sight) → AreSights name sights → IsSight name s → AreOfOne (edges_of sights ++ edge_of s ∷ [])
    → OnOk r (new ≡ sights ++ s ∷ []) → OnErr r (new ≡ sights) → AreSights name new
AreSights_either (Ok x) name sights new s are is one ok err = subst (AreSights name) (sym ok) (AreSights-push name sights s are is one)
AreSights_either (Err x) name sights new s are is one ok err = subst (AreSights name) (sym err) are

-- each sight tells an edge
edges_in : (sights : List Sight) → All (λ s. Contains (edges_of sights) (edge_of s)) sights
edges_in sights k d within = (k, subst (λ n. k < n) (sym (length-map sights edge_of)) within, get_or-map edge_of sights k d (edge_of (get_or sights k d)) within)

pub edge_in : (sights : List Sight) (s : Sight) → Contains sights s → Contains (edges_of sights) (edge_of s)
edge_in sights s in_s = All-contains (λ v. Contains (edges_of sights) (edge_of v)) sights s (edges_in sights) in_s

-- an edge is told by a sight
pub record SeenOf (sights : List Sight) (a : Edge) : Type 0 where
  pub sight : Sight
  pub there : Contains sights sight
  pub is : edge_of sight ≡ a

pub seen_of : (sights : List Sight) (a : Edge) → Contains (edges_of sights) a → SeenOf sights a
seen_of sights a in_a = All-contains (SeenOf sights) (edges_of sights) a
    (All-map (SeenOf sights) edge_of sights (All-weaker (Contains sights) (λ s. SeenOf sights (edge_of s)) (λ s in_s. record { sight = s; there = in_s; is = refl }) sights (All-contains_itself sights))) in_a

-- no edge names a shape above the highest number of the table
pub named_within : (name : List ℕ) (sights : List Sight) → AreSights name sights → (a : Edge) → Contains (edges_of sights) a → a.child ≤ last_in name
named_within name sights are a in_a = let of = seen_of sights a in_a in subst (λ (e : Edge). e.child ≤ last_in name) of.is (All-contains (IsSight name) sights of.sight are.read of.there).last

-- what was read of a cell, where a sight of it tells the same
pub cell_met : (name : List ℕ) (sights : List Sight) (mine s : Sight) → AreSights name sights → Contains sights mine → edge_of mine ≡ edge_of s
    → (a : Edge) → Contains (edges_of sights) a → a.spot ≡ (edge_of s).spot → a.child ≡ s.child
cell_met name sights mine s are in_mine same a in_a spot =
    are.one.spots a (edge_of mine) in_a (edge_in sights mine in_mine) (spot ∙ sym (ap (λ (e : Edge). e.spot) same)) ∙ ap (λ (e : Edge). e.child) same

-- and where the cell wasn't read
pub cell_new : (sights : List Sight) (s : Sight) → All (λ t. ¬ (IsOf s.next s.shape t)) sights
    → (a : Edge) → Contains (edges_of sights) a → a.spot ≡ (edge_of s).spot → a.child ≡ s.child
cell_new sights s fresh a in_a spot = let of = seen_of sights a in_a in
    absurd (All-contains (λ t. ¬ (IsOf s.next s.shape t)) sights of.sight fresh of.there
    (ap (λ (e : Edge). e.spot.next) of.is ∙ ap (λ (x : Spot). x.next) spot, ap (λ (e : Edge). e.spot.shape) of.is ∙ ap (λ (x : Spot). x.shape) spot))

-- what was read of a shape, where a sight of it tells the same
pub child_met : (name : List ℕ) (sights : List Sight) (mine s : Sight) → AreSights name sights → Contains sights mine → mine.child ≡ s.child → mine.parent ≡ s.parent → mine.key ≡ s.key
    → (a : Edge) → Contains (edges_of sights) a → a.child ≡ s.child → (a.parent ≡ s.parent) × (a.key ≡ s.key)
child_met name sights mine s are in_mine child parent key a in_a of =
    (are.one.parents a (edge_of mine) in_a (edge_in sights mine in_mine) (of ∙ sym child) ∙ parent, are.one.keys a (edge_of mine) in_a (edge_in sights mine in_mine) (of ∙ sym child) ∙ key)

-- and where it wasn't met
pub child_new : (sights : List Sight) (s : Sight) → All (λ t. t.child ≢ s.child) sights
    → (a : Edge) → Contains (edges_of sights) a → a.child ≡ s.child → (a.parent ≡ s.parent) × (a.key ≡ s.key)
child_new sights s fresh a in_a child = let of = seen_of sights a in_a in
    absurd (All-contains (λ t. t.child ≢ s.child) sights of.sight fresh of.there (ap (λ (e : Edge). e.child) of.is ∙ child))

-- what was read stays read
pub more_edges : (sights : List Sight) (s : Sight) → Includes (edges_of sights) (edges_of (sights ++ s ∷ []))
more_edges sights s e in_e = subst (λ (es : List Edge). Contains es e) (sym (edges_push sights s)) (Contains-append_left (edges_of sights) (edge_of s ∷ []) e in_e)

pub last_edge : (sights : List Sight) (s : Sight) → Contains (edges_of (sights ++ s ∷ [])) (edge_of s)
last_edge sights s = subst (λ (es : List Edge). Contains es (edge_of s)) (sym (edges_push sights s)) (Contains-push (edges_of sights) (edge_of s))

pub more_either : {A E : Type 0} (r : Result A E) (sights new : List Sight) (s : Sight) → OnOk r (new ≡ sights ++ s ∷ []) → OnErr r (new ≡ sights) → Includes (edges_of sights) (edges_of new)
more_either (Ok x) sights new s ok err e in_e = subst (λ (ss : List Sight). Contains (edges_of ss) e) (sym ok) (more_edges sights s e in_e)
more_either (Err x) sights new s ok err e in_e = subst (λ (ss : List Sight). Contains (edges_of ss) e) (sym err) in_e

-- and the last tells its edge
pub last_either : {A E : Type 0} (r : Result A E) (sights new : List Sight) (s : Sight) (e : Edge) → OnOk r (new ≡ sights ++ s ∷ []) → edge_of s ≡ e → OnOk r (Contains (edges_of new) e)
last_either (Ok x) sights new s e ok same = subst (λ (ss : List Sight). Contains (edges_of ss) e) (sym ok) (subst (Contains (edges_of (sights ++ s ∷ []))) same (last_edge sights s))
last_either (Err x) sights new s e ok same = tt

pub both : {A B : Type 0} → A → B → A × B
both a b = (a, b)

-- what stands where the sight of a cell was found, and where none was
module _ (sights : List Sight) where
  pub cell_within : (next : Bool) (shape at : ℕ) → place_of (map (λ s. cell_number s.next s.shape) sights) (cell_number next shape) ≡ Some at → at < length sights
  cell_within next shape at is = place_of_within (λ s. cell_number s.next s.shape) sights (cell_number next shape) at is

  pub cell_is : (next : Bool) (shape at : ℕ) (s : Sight) → place_of (map (λ s. cell_number s.next s.shape) sights) (cell_number next shape) ≡ Some at → s ≡ get_or sights at s → Contains sights s × IsOf next shape s
  cell_is next shape at s is read =
      let same : cell_number s.next s.shape ≡ cell_number next shape = ap (λ (t : Sight). cell_number t.next t.shape) read ∙ place_of_is (λ t. cell_number t.next t.shape) sights (cell_number next shape) at s is in
      both {A = Contains sights s} {B = IsOf next shape s} (at, cell_within next shape at is, sym read) (both (cell_number-next s.next next s.shape shape same) (cell_number-shape s.next next s.shape shape same))

  pub cell_none : (next : Bool) (shape : ℕ) → place_of (map (λ s. cell_number s.next s.shape) sights) (cell_number next shape) ≡ None → All (λ s. ¬ (IsOf next shape s)) sights
  cell_none next shape none k d within of =
      place_of_none (λ t. cell_number t.next t.shape) sights (cell_number next shape) none k d within (ap (λ (b : Bool). cell_number b (get_or sights k d).shape) of.0 ∙ ap (cell_number next) of.1)

  pub child_within : (child at : ℕ) → place_of (map (λ s. s.child) sights) child ≡ Some at → at < length sights
  child_within child at is = place_of_within (λ s. s.child) sights child at is

  pub child_is : (child at : ℕ) (s : Sight) → place_of (map (λ s. s.child) sights) child ≡ Some at → s ≡ get_or sights at s → Contains sights s × (s.child ≡ child)
  child_is child at s is read = ((at, child_within child at is, sym read), ap (λ (t : Sight). t.child) read ∙ place_of_is (λ t. t.child) sights child at s is)

  pub child_none : (child : ℕ) → place_of (map (λ s. s.child) sights) child ≡ None → All (λ s. s.child ≢ child) sights
  child_none child none k d within = place_of_none (λ t. t.child) sights child none k d within

-- a sight that was read last tells what it is of
pub of_edge : (sights : List Sight) (s : Sight) (next : Bool) (of : ℕ) → IsOf next of s
    → Contains (edges_of (sights ++ s ∷ [])) (record { spot = record { next = next; shape = of }; child = s.child; parent = s.parent; key = s.key })
of_edge sights s next of is = subst (Contains (edges_of (sights ++ s ∷ []))) (λ i. record { spot = record { next = is.0 i; shape = is.1 i }; child = s.child; parent = s.parent; key = s.key }) (last_edge sights s)
