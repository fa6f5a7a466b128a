-- Worked rows of the definitions.
use Rattle.std.specs.Prelude.{◌≡◌, ℕ, List, [], ◌∷◌, None, Some, refl}
use Rattle.tide_shape.specs.Shapes.{first_double, shapes_of_paths}

-- the keys a, b, c and d are 0 to 3, and the paths are `a b c` and `a d`
abbrev pub two_paths : List (List ℕ)
two_paths = (0 ∷ 1 ∷ 2 ∷ []) ∷ (0 ∷ 3 ∷ []) ∷ []

pub shapes_of_two_paths : shapes_of_paths two_paths ≡ [] ∷ (0 ∷ []) ∷ (0 ∷ 1 ∷ []) ∷ (0 ∷ 1 ∷ 2 ∷ []) ∷ (0 ∷ 3 ∷ []) ∷ []
shapes_of_two_paths = refl

-- no path leaves the empty shape alone
pub shapes_of_no_path : shapes_of_paths [] ≡ [] ∷ []
shapes_of_no_path = refl

-- `a a` behind `a b` is the first path that names a key twice, and none of the two paths above does
pub double_second : first_double ((0 ∷ 1 ∷ []) ∷ (0 ∷ 0 ∷ []) ∷ []) ≡ Some 1
double_second = refl

pub double_none : first_double two_paths ≡ None
double_none = refl
