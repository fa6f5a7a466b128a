-- What holds of an answer, where that is taken out of its `Result`.
use Rattle.std.proofs.Common.{◌≡◌, sym, subst, true≢false}
use Rattle.std.proofs.lemmas.Option.{none-some, same_Some}
use Rattle.std.specs.Prelude.{Err, IfOk, IfSome, IsOk, None, Ok, Option, Result, Some}
use Rattle.std.specs.Result.{result_ok}

module _ {X E : Type 0} where
  -- a call that is served has an answer, of which what its clauses say holds
  pub answered : (r : Result X E) (P : X → Type 0) → IsOk r → IfOk r P → (x : X) × P x
  answered (Ok x) P served holds = (x, holds)
  answered (Err e) P served holds = absurd (true≢false (sym served))

  -- so does it of what was taken out
  pub taken : (r : Result X E) (P : X → Type 0) (x : X) → Some x ≡ result_ok r → IfOk r P → P x
  taken (Ok y) P x is holds = subst P (sym (same_Some x y is)) holds
  taken (Err e) P x is holds = absurd (none-some x (sym is))

  -- and what holds of each that may be taken out, holds where one is
  pub if_taken : (r : Result X E) (o : Option X) {P : X → Type 0} → o ≡ result_ok r →
      ((x : X) → Some x ≡ result_ok r → P x) → IfSome o P
  if_taken r (Some x) is holds = holds x is
  if_taken r None is holds = tt
