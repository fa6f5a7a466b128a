-- The shapes of declared paths.
use Rattle.std.specs.Prelude.{ℕ, ◌≤◌, Bool, false, ◌||◌, List, [], ◌∷◌, ◌++◌, map, fold, if◌then◌else◌, Option, position, length}
use Rattle.std.specs.List.{flat_map}
use Rattle.tide_model.specs.Refused.{ShapeLists, is_shape, no_shapes}
use Rattle.tide_model.specs.Numbers.{is_among}

-- the beginnings of a path, the shortest first, without the empty one
abbrev pub beginnings : List ℕ → List (List ℕ)
beginnings [] = []
beginnings (key ∷ keys) = (key ∷ []) ∷ map (λ beginning. key ∷ beginning) (beginnings keys)

-- the shapes with one more at their end, unless it is there
abbrev pub add_if_new : ShapeLists → List ℕ → ShapeLists
add_if_new shapes keys = if is_shape shapes keys then shapes else shapes ++ keys ∷ []

-- the shapes of some paths: the empty one, and then each beginning of a path in the order in which the paths, from
-- first to last and from their front, meet them new
abbrev pub shapes_of_paths : List (List ℕ) → ShapeLists
shapes_of_paths paths = fold add_if_new no_shapes (flat_map beginnings paths)

-- the path names a key twice
abbrev pub names_twice : List ℕ → Bool
names_twice [] = false
names_twice (key ∷ keys) = is_among keys key || names_twice keys

-- the number of the first path that names a key twice, if one does
abbrev pub first_double : List (List ℕ) → Option ℕ
first_double paths = position names_twice paths

-- a path as it may be declared: of 1 to 64 keys
pub record IsPath (path : List ℕ) : Type 0 where
  pub some : 1 ≤ length path
  pub short : length path ≤ 64
