-- What growers of one table know, and how that fits together.
use Rattle.std.specs.Prelude.{ℕ, ◌≡◌, ◌==◌, ◌<◌, ◌≤◌, List, [], ◌∷◌, ◌++◌, All, Contains, if◌then◌else◌, is_some, length, Option, None, Some}
use Rattle.tide_shape.specs.ShapeTable.{HasNoKeyTwice}

-- what a contract sees of a table: what tells it from others, how many keys there are, and the highest number of a
-- shape
pub record Table : Type 0 where
  pub name : List ℕ
  pub keys : ℕ
  pub last : ℕ

-- what is known of a shape: its number and its keys
pub record Fact : Type 0 where
  pub shape : ℕ
  pub keys : List ℕ

-- what a contract sees of a grower: its table, the shapes that it knows, and the index of the item, if any, for which
-- no number was left when it was last refused for that
pub record Knowledge : Type 0 where
  pub table : Table
  pub known : List Fact
  pub beyond : Option ℕ

-- the keys of a shape among some facts: those of the first that names it
abbrev pub known_keys : List Fact → ℕ → Option (List ℕ)
known_keys [] shape = None
known_keys (fact ∷ facts) shape = if fact.shape == shape then Some fact.keys else known_keys facts shape

-- the facts with one more, unless its shape is known
abbrev pub learned : List Fact → ℕ → List ℕ → List Fact
learned facts shape keys = if is_some (known_keys facts shape) then facts else facts ++ record { shape = shape; keys = keys } ∷ []

-- a grower knows that the shape has these keys
abbrev pub Knows : Knowledge → ℕ → List ℕ → Type 0
Knows grower shape keys = known_keys grower.known shape ≡ Some keys

-- the shapes that a grower knows have numbers below this one
abbrev pub IsAbove : Knowledge → ℕ → Type 0
IsAbove grower bound = (shape : ℕ) (keys : List ℕ) → Knows grower shape keys → shape < bound

-- what some growers know fits together: a number has one list of keys, and a list of keys one number
pub record Grown (growers : List Knowledge) : Type 0 where
  pub lists : (one other : Knowledge) (shape : ℕ) (keys others : List ℕ) → Contains growers one → Contains growers other →
      Knows one shape keys → Knows other shape others → keys ≡ others
  pub numbers : (one other : Knowledge) (shape number : ℕ) (keys : List ℕ) → Contains growers one → Contains growers other →
      Knows one shape keys → Knows other number keys → shape ≡ number

-- one of some growers knows that the shape has these keys
abbrev pub IsKnown : List Knowledge → ℕ → List ℕ → Type 0
IsKnown growers shape keys = (grower : Knowledge) × Contains growers grower × Knows grower shape keys

-- what a grower knows by itself: the empty shape has no key, a shape has at most 64 keys and none twice, a list of keys
-- has one number, no number is above the highest of its table, and each key is one of its table
pub record IsKnowledge (grower : Knowledge) : Type 0 where
  pub empty : Knows grower 0 []
  pub none : (keys : List ℕ) → Knows grower 0 keys → keys ≡ []
  pub short : (shape : ℕ) (keys : List ℕ) → Knows grower shape keys → length keys ≤ 64
  pub distinct : (shape : ℕ) (keys : List ℕ) → Knows grower shape keys → HasNoKeyTwice keys
  pub number : (shape other : ℕ) (keys : List ℕ) → Knows grower shape keys → Knows grower other keys → shape ≡ other
  pub last : (shape : ℕ) (keys : List ℕ) → Knows grower shape keys → shape ≤ grower.table.last
  pub of_table : (shape : ℕ) (keys : List ℕ) → Knows grower shape keys → All (λ key. key < grower.table.keys) keys
