-- A shape has one list of keys, and a list of keys one shape, in what was read of one table.
use Rattle.std.proofs.Common.{ℕ, ◌≡◌, ◌≢◌, sym, ◌∙◌, ap, subst, List, [], ◌∷◌, ◌++◌}
use native.Mathlib.Omega.{arith}
use Rattle.std.proofs.lemmas.List.{same_from_push}
use Rattle.std.specs.Prelude.{Contains}
use Rattle.tide_grow_shape.specs.transitions.Walks.{Spot, first_of, next_of, Edge, Finds, here, there, Lists, empty, longer, AreOfOne}

-- more that was read changes nothing of what is known
pub Finds-more : {edges more : List Edge} {parent key child : ℕ} {spot : Spot} → ((e : Edge) → Contains edges e → Contains more e) → Finds edges parent key spot child → Finds more parent key spot child
Finds-more within (here e is at to of by) = here e (within e is) at to of by
Finds-more within (there e is at other f) = there e (within e is) at other (Finds-more within f)

pub Lists-more : {edges more : List Edge} {shape : ℕ} {keys : List ℕ} → ((e : Edge) → Contains edges e → Contains more e) → Lists edges shape keys → Lists more shape keys
Lists-more within (empty zero none) = empty zero none
Lists-more within (longer p front k l f is) = longer p front k (Lists-more within l) (Finds-more within f) is

-- what a walk ends at
pub record End (edges : List Edge) (parent key child : ℕ) : Type 0 where
  pub edge : Edge
  pub seen : Contains edges edge
  pub names : edge.child ≡ child
  pub under : edge.parent ≡ parent
  pub by : edge.key ≡ key

pub no_push : (front : List ℕ) (key : ℕ) → [] ≢ front ++ key ∷ []
no_push [] key same = grind (arith, same)
no_push (x ∷ xs) key same = grind (arith, same)

pub Finds-end : {edges : List Edge} {parent key child : ℕ} {spot : Spot} → Finds edges parent key spot child → End edges parent key child
Finds-end (here e is at to of by) = record { edge = e; seen = is; names = to; under = of; by = by }
Finds-end (there e is at other f) = Finds-end f

Finds-by : {edges : List Edge} {parent key other child : ℕ} {spot : Spot} → key ≡ other → Finds edges parent key spot child → Finds edges parent other spot child
Finds-by {edges} {parent} {key} {other} {child} {spot} same f = subst (λ (k : ℕ). Finds edges parent k spot child) same f

module _ (edges : List Edge) (one : AreOfOne edges) where
  -- the walk for a key has one end
  pub Finds-same : {parent other key child child' : ℕ} {spot spot' : Spot} → spot ≡ spot' → Finds edges parent key spot child → Finds edges other key spot' child' → child ≡ child'
  Finds-same same (here e is at to of by) (here e' is' at' to' of' by') = sym to ∙ one.spots e e' is is' (at ∙ same ∙ sym at') ∙ to'
  Finds-same same (here e is at to of by) (there e' is' at' other' f') = absurd (other' (sym (one.keys e e' is is' (one.spots e e' is is' (at ∙ same ∙ sym at'))) ∙ by))
  Finds-same same (there e is at other f) (here e' is' at' to' of' by') = absurd (other (one.keys e e' is is' (one.spots e e' is is' (at ∙ same ∙ sym at')) ∙ by'))
  Finds-same same (there e is at other f) (there e' is' at' other' f') = Finds-same (ap next_of (one.spots e e' is is' (at ∙ same ∙ sym at'))) f f'

  -- a list of keys has one shape
  pub shape_same : {shape other : ℕ} {keys keys' : List ℕ} → keys ≡ keys' → Lists edges shape keys → Lists edges other keys' → shape ≡ other
  shape_same same (empty zero none) (empty zero' none') = zero ∙ sym zero'
  shape_same same (empty zero none) (longer p' front' k' l' f' is') = absurd (no_push front' k' (sym none ∙ same ∙ is'))
  shape_same same (longer p front k l f is) (empty zero' none') = absurd (no_push front k (sym none' ∙ sym same ∙ is))
  shape_same same (longer p front k l f is) (longer p' front' k' l' f' is') =
      let both = same_from_push front front' k k' (sym is ∙ same ∙ is') in
      let parents : p ≡ p' = shape_same both.0 l l' in
      Finds-same (ap first_of parents) f (Finds-by (sym both.1) f')

  -- a shape has one list of keys
  pub keys_same : {shape other : ℕ} {keys keys' : List ℕ} → shape ≡ other → Lists edges shape keys → Lists edges other keys' → keys ≡ keys'
  keys_same same (empty zero none) (empty zero' none') = none ∙ sym none'
  keys_same same (empty zero none) (longer p' front' k' l' f' is') =
      let end = Finds-end f' in absurd (one.some end.edge end.seen (end.names ∙ sym same ∙ zero))
  keys_same same (longer p front k l f is) (empty zero' none') =
      let end = Finds-end f in absurd (one.some end.edge end.seen (end.names ∙ same ∙ zero'))
  keys_same same (longer p front k l f is) (longer p' front' k' l' f' is') =
      let end = Finds-end f in let end' = Finds-end f' in
      let child : end.edge.child ≡ end'.edge.child = end.names ∙ same ∙ sym end'.names in
      let parents : p ≡ p' = sym end.under ∙ one.parents end.edge end'.edge end.seen end'.seen child ∙ end'.under in
      let keys : k ≡ k' = sym end.by ∙ one.keys end.edge end'.edge end.seen end'.seen child ∙ end'.by in
      is ∙ ap (λ (xs : List ℕ). xs ++ k ∷ []) (keys_same parents l l') ∙ ap (λ (key : ℕ). front' ++ key ∷ []) keys ∙ sym is'
