-- Of which keys the objects are in the row in which a keeper shows what a heap holds.
use Rattle.std.specs.Prelude.{ℕ, ◌≡◌, List, [], ◌∷◌}
use Rattle.tide.specs.tide_model.Refused.{ShapeLists}
use Rattle.tide.specs.tide_shape.Shapes.{shapes_of_paths}

-- an object gets the key 0, and then the key 1
abbrev pub paths_shown : List (List ℕ)
paths_shown = (0 ∷ 1 ∷ []) ∷ []

-- the shapes are those of this path
abbrev pub AreShown : ShapeLists → Type 0
AreShown shapes = shapes ≡ shapes_of_paths paths_shown
