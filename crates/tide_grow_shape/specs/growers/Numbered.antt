-- Lists of keys by the numbers of shapes.
use Rattle.std.specs.Prelude.{ℕ, ◌≡◌, ◌≢◌, ◌<◌, ◌≤◌, ◌+◌, ◌*◌, ◌^◌, length, List, [], ◌∷◌, ◌++◌, Some, is_some, nat_eq, slice_get, true}
use Rattle.std.specs.List.{slice_index_or}
use Rattle.std.specs.Option.{unwrap_or}
use Rattle.std.specs.HashMap.{HashMap, get}
use Rattle.tide_model.specs.Refused.{ShapeLists}
use Rattle.tide_grow_shape.specs.growers.Grown.{IsAbove, IsKnowledge, Knowledge, Knows, known_keys}

-- the number of a shape with a key
abbrev pub pair_number : ℕ → ℕ → ℕ
pair_number shape key = shape * 4294967296 + key

-- a known shape has one key more than its parent, the one shape that may have the others
pub record IsParent (grower : Knowledge) (shape parent key : ℕ) : Type 0 where
  pub front : (keys : List ℕ) → Knows grower shape keys → (front : List ℕ) × (keys ≡ front ++ key ∷ [])
  pub only : (front : List ℕ) (other : ℕ) → Knows grower shape (front ++ key ∷ []) → Knows grower other front → other ≡ parent
  pub keys : (front others : List ℕ) → Knows grower shape (front ++ key ∷ []) → Knows grower parent others → others ≡ front

-- each list is the one that is known of its number, and empty where none is
abbrev pub AreListed : Knowledge → ShapeLists → Type 0
AreListed grower lists = (shape : ℕ) → shape < length lists →
    slice_index_or lists shape [] ≡ unwrap_or (known_keys grower.known shape) []

-- what is known is in the lists, and they have no other keys, and no number above those that are known
pub record AreLists (grower : Knowledge) (lists : ShapeLists) : Type 0 where
  pub known : (shape : ℕ) (keys : List ℕ) → Knows grower shape keys → slice_get lists shape ≡ Some keys
  pub only : (shape : ℕ) (keys : List ℕ) → slice_get lists shape ≡ Some keys → keys ≢ [] → Knows grower shape keys
  pub last : (bound : ℕ) → IsAbove grower bound → length lists ≤ bound

-- the known shapes below some number are found by their parents and last keys
pub record AreChildren {S : Type 0} (grower : Knowledge) (past : ℕ) (children : HashMap ℕ ℕ S) : Type 0 where
  pub found : (parent key child : ℕ) (front : List ℕ) → key < 2 ^ 32 → get nat_eq children (pair_number parent key) ≡ Some child →
      Knows grower parent front → Knows grower child (front ++ key ∷ [])
  pub none : (parent key child : ℕ) (front : List ℕ) → child < past → Knows grower parent front →
      Knows grower child (front ++ key ∷ []) → is_some (get nat_eq children (pair_number parent key)) ≡ true

-- the lists of what some grower knows
pub record IsNumbered {S : Type 0} (lists : ShapeLists) (children : HashMap ℕ ℕ S) : Type 0 where
  pub grower : Knowledge
  pub holds : IsKnowledge grower
  pub by_number : AreLists grower lists
  pub by_parent : (past : ℕ) → AreChildren grower past children
