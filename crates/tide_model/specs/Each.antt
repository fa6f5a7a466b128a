-- Lists of which each element stands by those before it.
use Rattle.std.specs.Prelude.{ℕ, ◌≡◌, List, take, slice_get, Some}

-- each element of a list stands by what is before it
abbrev pub Each : {X : Type 0} → (List X → X → Type 0) → List X → Type 0
Each stands xs = (place : ℕ) (x : _) → slice_get xs place ≡ Some x → stands (take place xs) x
