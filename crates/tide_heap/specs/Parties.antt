-- Participants of a heap by their numbers, and what is added up over some of them.
use Rattle.std.specs.Prelude.{ℕ, Contains, zero, suc, ◌≡◌, ◌+◌, ◌⊎◌, List, [], ◌∷◌, length, nat_lt, if◌then◌else◌}
use Rattle.tide_core.specs.declared.machine.view.NotedCalls.{NotedCalls}
use Rattle.tide_core.specs.declared.machine.view.View.{View}
use Rattle.tide_core.specs.machine.points.Marks.{counted_in}
pub use Rattle.tide_core.specs.machine.World.{IsParty}
use Rattle.tide_model.specs.declared.entry.Event.{Event}

-- the number is one of the list
abbrev pub In : ℕ → List ℕ → Type 0
In i [] = ⊥
In i (x ∷ xs) = (i ≡ x) ⊎ In i xs

-- the collector's view keeps what a note told of this participant's calls
abbrev pub HasNoted : View → ℕ → Type 0
HasNoted cv i = (noted : NotedCalls) × Contains cv.noted_calls noted × (noted.who ≡ i)

-- the numbers below another
abbrev pub up_to : ℕ → List ℕ
up_to zero = []
up_to (suc i) = i ∷ up_to i

-- of two beginnings of one history the longer
abbrev pub longer : List Event → List Event → List Event
longer a b = if nat_lt (length a) (length b) then b else a

-- a sum over a list
abbrev pub sum_of : (ℕ → ℕ) → List ℕ → ℕ
sum_of f [] = 0
sum_of f (x ∷ xs) = f x + sum_of f xs

-- the visits that some views count in a part
abbrev pub tally : ℕ → (ℕ → View) → List ℕ → ℕ
tally period part notes = sum_of (λ i. counted_in period (part i)) notes
