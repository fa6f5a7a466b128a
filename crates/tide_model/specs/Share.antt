-- What one mutator does in a running part.
use Rattle.std.specs.Prelude.{ℕ, ◌≡◌, ◌<◌, ◌⊎◌, Bool, true, false, ◌||◌, List, [], ◌∷◌, length, Option, Some, is_some}
use Rattle.tide_model.specs.declared.op.Op.{Op}
use Rattle.tide_model.specs.declared.op.Reply.{Reply}
use Rattle.tide_model.specs.declared.op.Reply.TheVariants.{Asked}
use Rattle.tide_model.specs.Each.{Each}
use Rattle.tide_model.specs.Script.{retry_after, retry_after_all}

-- the reply is that a cycle was asked for
abbrev pub is_asked : Reply → Bool
is_asked Asked = true
is_asked _ = false

-- after this call its mutator stops: a cycle was asked for, or the operation was refused for room a first time; `retry`
-- is the operation that was to be tried again
abbrev pub ends_share : Option Op → Op × Reply → Bool
ends_share retry call = is_asked call.1 || is_some (retry_after retry call)

-- the last of some calls is such a call, or there are none and the mutator had stopped before
abbrev pub has_ended_from : Bool → Option Op → List (Op × Reply) → Bool
has_ended_from ended retry [] = ended
has_ended_from ended retry (call ∷ calls) = has_ended_from (ends_share retry call) (retry_after retry call) calls

-- the last of a part's calls is such a call
abbrev pub has_ended : Option Op → List (Op × Reply) → Bool
has_ended retry calls = has_ended_from false retry calls

-- a call may follow those that the mutator made in this part: fewer than `run` were made, the last of them let it go
-- on, and an operation that was first refused for room is tried again
pub record HasCallLeft (run : ℕ) (retry : Option Op) (before : List (Op × Reply)) (call : Op × Reply) : Type 0 where
  pub left : length before < run
  pub goes_on : has_ended retry before ≡ false
  pub retries : (op : Op) → retry_after_all retry before ≡ Some op → call.0 ≡ op

-- A mutator's calls in a part. It makes `run` calls, and fewer only where it has retired, or where the last one ends
-- its share.
pub record IsShare (run : ℕ) (retry : Option Op) (is_active : Bool) (calls : List (Op × Reply)) : Type 0 where
  pub each : Each (HasCallLeft run retry) calls
  pub fewer : length calls < run → (is_active ≡ false) ⊎ (has_ended retry calls ≡ true)
