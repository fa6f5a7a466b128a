-- What one script more adds to the room of a run.
use Rattle.std.proofs.Common.{ℕ, zero, suc, ◌≡◌, ◌<◌, ◌+◌, refl, sym, ◌∙◌, ap, subst, arith, List, [], ◌∷◌, ◌++◌, length, map, take, slice_index_or, All}
use Rattle.std.proofs.lemmas.List.Elements.{All-head, All-tail}
use Rattle.std.proofs.lemmas.List.Recursion.{max_push}
use Rattle.std.proofs.lemmas.List.Sums.{sum_by_push}
use Rattle.std.specs.Prelude.{max}
use Rattle.tide_model.specs.declared.op.Op.{Op}
use Rattle.tide_periods.specs.Room.{calls_for, calls_in, longest_in, operations_in}

-- a list of what a function gives, up to a place and with it
pub take-map_more : {X Y : Type 0} (f : X → Y) (xs : List X) (at : ℕ) (x : X) → at < length xs → x ≡ slice_index_or xs at x →
    take (at + 1) (map f xs) ≡ take at (map f xs) ++ f x ∷ []
take-map_more {X} f xs at x below is = (let on : at + 1 ≡ suc at = omega arith in ap (λ n. take n (map f xs)) on ∙ step xs at below is)
  where
    step : (ys : List X) (k : ℕ) → k < length ys → x ≡ slice_index_or ys k x → take (suc k) (map f ys) ≡ take k (map f ys) ++ f x ∷ []
    step [] k less same = absurd (omega (arith, less))
    step (y ∷ ys) zero less same = ap (λ z. f z ∷ []) (sym same)
    step (y ∷ ys) (suc k) less same = ap (λ rest. f y ∷ rest) (step ys k (omega (arith, less)) same)

-- what holds of all that a function gives holds at a place
pub All-map_at : {X Y : Type 0} (P : Y → Type 0) (f : X → Y) (xs : List X) (at : ℕ) (x : X) → at < length xs → x ≡ slice_index_or xs at x →
    All P (map f xs) → P (f x)
All-map_at P f [] at x below is all = absurd (omega (arith, below))
All-map_at P f (y ∷ xs) zero x below is all = subst (λ z. P (f z)) (sym is) (All-head P (f y) (map f xs) all)
All-map_at P f (y ∷ xs) (suc at) x below is all = All-map_at P f xs at x (omega (arith, below)) is (All-tail P (f y) (map f xs) all)

pub operations_in-push : (scripts : List (List Op)) (ops : List Op) → operations_in (scripts ++ ops ∷ []) ≡ operations_in scripts + length ops
operations_in-push scripts ops = sum_by_push length scripts ops

pub calls_in-push : (scripts : List (List Op)) (ops : List Op) → calls_in (scripts ++ ops ∷ []) ≡ calls_in scripts + calls_for ops
calls_in-push scripts ops = sum_by_push calls_for scripts ops

pub longest_in-push : (scripts : List (List Op)) (ops : List Op) → longest_in (scripts ++ ops ∷ []) ≡ max (longest_in scripts) (calls_for ops)
longest_in-push scripts ops = max_push longest_in calls_for refl (λ first rest. refl) scripts ops
