-- What every table of shapes is.
use Rattle.std.specs.Prelude.{ℕ, ◌≡◌, ◌≢◌, ◌≤◌, List, [], Some, length, slice_get, All, AllPairs}
use Rattle.std.specs.List.{slice_index_or}
use Rattle.tide_model.specs.Refused.{ShapeLists}

-- the keys of a shape, in order
abbrev pub keys_of : ShapeLists → ℕ → List ℕ
keys_of shapes shape = slice_index_or shapes shape []

-- no key is named twice
abbrev pub HasNoKeyTwice : List ℕ → Type 0
HasNoKeyTwice keys = AllPairs (λ earlier later. earlier ≢ later) keys

-- a table: its first shape is the empty one, and each shape has at most 64 keys and none twice; two numbers may have
-- the same keys
pub record IsShapeTable (shapes : ShapeLists) : Type 0 where
  pub empty : slice_get shapes 0 ≡ Some []
  pub short : All (λ keys. length keys ≤ 64) shapes
  pub distinct : All HasNoKeyTwice shapes
