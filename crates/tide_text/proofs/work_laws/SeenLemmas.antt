-- Lists that contracts see element by element.
use Rattle.std.proofs.Common.{ℕ, zero, suc, ◌<◌, arith, length, map, get_or, List, [], ◌∷◌}
use Rattle.std.specs.Prelude.{All}
use Rattle.std.proofs.lemmas.List.Elements.{All-head, All-tail}

-- what holds of all that a list is seen as holds of what one of its elements is seen as
pub All-seen : {X Y : Type 0} (P : Y → Type 0) (show : X → Y) (xs : List X) (m : ℕ) (d : X) → m < length xs → All P (map show xs) → P (show (get_or xs m d))
All-seen P show [] m d h all = absurd (omega arith)
All-seen P show (x ∷ xs) zero d h all = All-head P (show x) (map show xs) all
All-seen P show (x ∷ xs) (suc m) d h all = All-seen P show xs m d (omega arith) (All-tail P (show x) (map show xs) all)
