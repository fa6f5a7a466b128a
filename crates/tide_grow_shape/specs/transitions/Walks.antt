-- What was read of the cells of a table, and which shape has which keys by that.
use Rattle.std.specs.Prelude.{ℕ, ◌≡◌, ◌≢◌, Bool, true, false, List, [], ◌∷◌, ◌++◌, Contains}

-- a cell that is set once: that of a shape's first child, or that of a shape's next sibling
pub record Spot : Type 0 where
  pub next : Bool
  pub shape : ℕ

-- the cell of a shape's first child
abbrev pub first_of : ℕ → Spot
first_of shape = record { next = false; shape = shape }

-- the cell of a shape's next sibling
abbrev pub next_of : ℕ → Spot
next_of shape = record { next = true; shape = shape }

-- what was read of a set cell: the shape that it names, with that shape's parent and last key
pub record Edge : Type 0 where
  pub spot : Spot
  pub child : ℕ
  pub parent : ℕ
  pub key : ℕ

-- the walk over the children of a shape, from a cell on, comes to this child as the first one with the key
pub data Finds (edges : List Edge) (parent key : ℕ) : Spot → ℕ → Type 0 where
  here : {spot : Spot} {child : ℕ} (edge : Edge) → Contains edges edge → edge.spot ≡ spot → edge.child ≡ child →
      edge.parent ≡ parent → edge.key ≡ key → Finds edges parent key spot child
  there : {spot : Spot} {child : ℕ} (edge : Edge) → Contains edges edge → edge.spot ≡ spot → edge.key ≢ key →
      Finds edges parent key (next_of edge.child) child → Finds edges parent key spot child

-- the shape has these keys: the empty shape has none, and one that the walk over its parent's children finds has one
-- more
pub data Lists (edges : List Edge) : ℕ → List ℕ → Type 0 where
  empty : {shape : ℕ} {keys : List ℕ} → shape ≡ 0 → keys ≡ [] → Lists edges shape keys
  longer : {shape : ℕ} {keys : List ℕ} (parent : ℕ) (front : List ℕ) (key : ℕ) → Lists edges parent front →
      Finds edges parent key (first_of parent) shape → keys ≡ front ++ key ∷ [] → Lists edges shape keys

-- what was read is of one table: a cell names one shape, and a shape has one parent and one key; shape 0 has none
pub record AreOfOne (edges : List Edge) : Type 0 where
  pub spots : (a b : Edge) → Contains edges a → Contains edges b → a.spot ≡ b.spot → a.child ≡ b.child
  pub parents : (a b : Edge) → Contains edges a → Contains edges b → a.child ≡ b.child → a.parent ≡ b.parent
  pub keys : (a b : Edge) → Contains edges a → Contains edges b → a.child ≡ b.child → a.key ≡ b.key
  pub some : (a : Edge) → Contains edges a → a.child ≢ 0

-- all that was read is in what was read later
abbrev pub Includes : List Edge → List Edge → Type 0
Includes edges more = (e : Edge) → Contains edges e → Contains more e
