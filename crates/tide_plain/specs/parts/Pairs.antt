-- What the places of a table hold, which of them has a pair, and which has room for one.
use Rattle.std.specs.Prelude.{ℕ, ◌≡◌, ◌≢◌, ◌<◌, ◌==◌, Bool, false, List, [], ◌∷◌, length, Option, None, Some, if◌then◌else◌}
use Rattle.std.specs.List.{slice_index_or}
use Rattle.tide_model.specs.declared.val.Val.{Val}
use Rattle.tide_plain.specs.declared.parts.stored_cell.Pair.{Pair}

-- what these places hold under a key cell
abbrev pub pairs_of : List (Option Pair) → ℕ → Option Val
pairs_of [] key = None
pairs_of (None ∷ places) key = pairs_of places key
pairs_of (Some pair ∷ places) key = if pair.key == key then Some pair.value else pairs_of places key

-- no key stands twice among these places
abbrev pub IsDistinctPairs : List (Option Pair) → Type 0
IsDistinctPairs places = (one other : ℕ) (pair again : Pair) → slice_index_or places one None ≡ Some pair → slice_index_or places other None ≡ Some again →
    pair.key ≡ again.key → one ≡ other

-- the place has a pair of the key
abbrev pub is_of : ℕ → Option Pair → Bool
is_of key None = false
is_of key (Some pair) = pair.key == key

-- a place for the pair of the key: it has no other, and no other place has one of the key
pub record IsSeat (places : List (Option Pair)) (key place : ℕ) : Type 0 where
  pub within : place < length places
  pub own : (pair : Pair) → slice_index_or places place None ≡ Some pair → pair.key ≡ key
  pub alone : (other : ℕ) (pair : Pair) → other ≢ place → slice_index_or places other None ≡ Some pair → pair.key ≢ key
