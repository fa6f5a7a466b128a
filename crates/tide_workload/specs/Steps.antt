-- Reading step by step: the first step that refuses decides.
use Rattle.std.specs.Prelude.{◌≡◌, ◌≢◌, ℕ, ◌+◌, List, [], ◌∷◌, Option, Some, None, Result, Ok, Err}
use Rattle.tide_text.specs.declared.work.fault.Fault.{Fault}
use Rattle.tide_text.specs.declared.work.fault.Fault.TheVariants.{Bad, Memory}
use Rattle.tide_text.specs.declared.work.field.Field.{Field}

infixl 10 ◌>>=◌
-- a step, and then another on what it gave
abbrev pub ◌>>=◌ : {A B : Type 0} → Result A Fault → (A → Result B Fault) → Result B Fault
(Ok x) >>= f = f x
(Err fault) >>= f = Err fault

-- each of these in order, or the first refusal
abbrev pub each : {A B : Type 0} → (A → Result B Fault) → List A → Result (List B) Fault
each f [] = Ok []
each f (x ∷ xs) = do
  y ← f x
  ys ← each f xs
  Ok (y ∷ ys)

-- each of these in order, told its place from a number on, or the first refusal
abbrev pub each_from : {A B : Type 0} → (ℕ → A → Result B Fault) → ℕ → List A → Result (List B) Fault
each_from f at [] = Ok []
each_from f at (x ∷ xs) = do
  y ← f at x
  ys ← each_from f (at + 1) xs
  Ok (y ∷ ys)

-- what is read of a field, which is bad where there is nothing
abbrev pub good : {A : Type 0} → Field → Option A → Result A Fault
good field None = Err (Bad field)
good field (Some x) = Ok x

-- a call gave what the reading gives, as `show` sees it, unless memory ran out
abbrev pub Gives : {A B : Type 0} → (A → B) → Result A Fault → Result B Fault → Type 0
Gives show (Ok x) reading = reading ≡ Ok (show x)
Gives show (Err fault) reading = fault ≢ Memory → reading ≡ Err fault
