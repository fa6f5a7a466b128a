-- How each shape leads to the shapes with one more key.
use Rattle.std.specs.Prelude.{ℕ, ◌≡◌, ◌<◌, ◌≤◌, List, [], ◌∷◌, ◌++◌, Option, None, length, map, slice_index, IfSome, IsSomeAnd}
use Rattle.std.specs.List.{slice_index_or}
use Rattle.tide_model.specs.Refused.{ShapeLists}
use Rattle.tide_shape.specs.ShapeTable.{keys_of}
use Rattle.tide_shape.specs.declared.tree.Shape.{Shape}

-- Each shape by its number: its keys and the last of them. The newest child is the shape with one more key that was
-- made last, and the older sibling the one that was made before this one and differs in its last key alone.
pub record Links : Type 0 where
  pub keys : ℕ → List ℕ
  pub last : ℕ → ℕ
  pub newest : ℕ → Option ℕ
  pub older : ℕ → Option ℕ

-- of so many shapes, the newest child and then one older sibling after another are all the shapes with one more key
pub record AreLinked (count : ℕ) (links : Links) : Type 0 where
  -- a newest child has one more key, and an older sibling stands before and differs in its last key
  pub child : (parent : ℕ) → parent < count →
      IfSome (links.newest parent) (λ child. (child < count) × (links.keys child ≡ links.keys parent ++ links.last child ∷ []))
  pub sibling : (child : ℕ) → child < count →
      IfSome (links.older child) (λ other. (other < child)
      × ((front : List ℕ) → links.keys child ≡ front ++ links.last child ∷ [] → links.keys other ≡ front ++ links.last other ∷ []))
  -- no child is newer than the newest, and none stands between a child and its older sibling
  pub newest_is_last : (parent child key : ℕ) → parent < count → child < count →
      links.keys child ≡ links.keys parent ++ key ∷ [] → IsSomeAnd (links.newest parent) (λ newest. child ≤ newest)
  pub older_is_next : (child other key other_key : ℕ) (front : List ℕ) → child < count → other < child →
      links.keys child ≡ front ++ key ∷ [] → links.keys other ≡ front ++ other_key ∷ [] →
      IsSomeAnd (links.older child) (λ older. other ≤ older)
  -- each shape with a key has a parent, and no two shapes have the same keys
  pub parent : (child key : ℕ) (front : List ℕ) → child < count → links.keys child ≡ front ++ key ∷ [] →
      (parent : ℕ) × (parent < count) × (links.keys parent ≡ front)
  pub apart : (shape other : ℕ) → shape < count → other < count → links.keys shape ≡ links.keys other → shape ≡ other

-- the keys of each shape
abbrev pub key_lists : List Shape → ShapeLists
key_lists shapes = map (λ shape. shape.keys.items) shapes

-- what the shapes of a list are by their numbers
abbrev pub links_of : List Shape → Links
links_of shapes = record {
  keys = keys_of (key_lists shapes);
  last = slice_index (map (λ shape. shape.key) shapes);
  newest = λ n. slice_index_or (map (λ shape. shape.newest_child) shapes) n None;
  older = λ n. slice_index_or (map (λ shape. shape.older_sibling) shapes) n None;
}

-- the shapes of a list are linked
abbrev pub IsTree : List Shape → Type 0
IsTree shapes = AreLinked (length shapes) (links_of shapes)
