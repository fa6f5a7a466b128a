-- Where numbers stand in a list.
use Rattle.std.specs.Prelude.{ℕ, ◌≡◌, ◌<◌, ◌==◌, ◌+◌, List, [], ◌∷◌, if◌then◌else◌, Option, None, Some, nat_eq}
use Rattle.std.specs.Option.{option_map}
use Rattle.std.specs.HashMap.{get, spare}
use Rattle.tide_grow_shape.specs.declared.transitions.places.Places.{Places}

-- the first place of a number, if it stands in the list
abbrev pub place_of : List ℕ → ℕ → Option ℕ
place_of [] number = None
place_of (first ∷ others) number = if first == number then Some 0 else option_map (λ place. place + 1) (place_of others number)

-- the places tell of each number where it stands first in the list
abbrev pub Indexes : Places → List ℕ → Type 0
Indexes places numbers = (number : ℕ) → get nat_eq places.places number ≡ place_of numbers number

-- one number more fits without memory
abbrev pub HasRoom : Places → Type 0
HasRoom places = 0 < spare places.places
