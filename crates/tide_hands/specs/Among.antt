-- Places among some.
use Rattle.std.specs.Prelude.{ℕ, zero, suc, ◌≡◌, ◌+◌, ◌==◌, ◌⊎◌, not, List, [], ◌∷◌, filter, if◌then◌else◌}

-- the place is one of these
abbrev pub Among : ℕ → List ℕ → Type 0
Among place [] = ⊥
Among place (other ∷ places) = (place ≡ other) ⊎ Among place places

-- all places below a number
abbrev pub places_below : ℕ → List ℕ
places_below zero = []
places_below (suc place) = place ∷ places_below place

-- these without one
abbrev pub without : ℕ → List ℕ → List ℕ
without place places = filter (λ other. not (other == place)) places

-- how often a place stands among some
abbrev pub times : ℕ → List ℕ → ℕ
times place [] = 0
times place (other ∷ places) = (if place == other then 1 else 0) + times place places
