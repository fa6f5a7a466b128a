-- What one mutator asks next, by its own calls.
use Rattle.std.specs.Prelude.{ℕ, ◌≡◌, ◌+◌, ◌<◌, ◌≤◌, Bool, true, false, not, ◌&&◌, nat_lt, if◌then◌else◌}
use Rattle.std.specs.Prelude.{List, [], ◌∷◌, ◌++◌, All, length, map, replicate, slice_get, take, Option, None, Some, is_some}
use Rattle.tide_model.specs.declared.op.Op.{Op}
use Rattle.tide_model.specs.declared.op.Op.TheVariants.{Unclaim, Retire}
use Rattle.tide_model.specs.declared.op.Reply.{Reply}
use Rattle.tide_model.specs.declared.entry.Event.{Event}
use Rattle.tide_model.specs.History.{state_after}
use Rattle.tide_model.specs.Layout.{Layout}
use Rattle.tide_model.specs.Lawful.{FitsLayout}
use Rattle.tide_model.specs.Script.{is_retire, retry_of}
use Rattle.tide_model.specs.Script.{calls_of, is_full_reply, script_of}
use Rattle.tide_periods.specs.declared.cursor.ScriptCursor.{ScriptCursor}
use Rattle.tide_periods.specs.Recorded.{Recorded}
use Rattle.tide_periods.specs.Store.{Setting}
use Rattle.tide_periods.specs.Answered.{pair_of}

-- an operation, or what comes when all are done: to give up claims, and then to retire
abbrev pub op_or_leave : Option Op → ℕ → Op
op_or_leave (Some op) claims = op
op_or_leave None claims = if nat_lt 0 claims then Unclaim else Retire

-- how far a mutator is
pub record Standing : Type 0 where
  pub done : ℕ
  pub retry : Bool
  pub retired : Bool

-- what a mutator asks next
abbrev pub next_of : List Op → Standing → ℕ → Op
next_of ops standing claims = op_or_leave (slice_get ops standing.done) claims

-- how far a mutator is after a reply
abbrev pub after_reply : List Op → Standing → Op → Reply → Standing
after_reply ops standing op reply = record {
  done = if not (not standing.retry && is_full_reply reply) && nat_lt standing.done (length ops) then standing.done + 1
      else standing.done;
  retry = not standing.retry && is_full_reply reply;
  retired = is_retire op;
}

-- A mutator's script so far is a first part of its operations, then some unclaims, and then to retire. It holds so many
-- claims, and held `total` of them when its operations were done.
pub record IsAt (ops : List Op) (standing : Standing) (script : List Op) (total held : ℕ) : Type 0 where
  pub within : standing.done ≤ length ops
  pub unclaims : ℕ
  pub none_yet : standing.done < length ops → unclaims ≡ 0
  pub is_script : script ≡
      (take standing.done ops ++ replicate unclaims Unclaim) ++ (if standing.retired then Retire ∷ [] else [])
  pub at_end : standing.retired ≡ true → standing.done ≡ length ops
  pub given : standing.done ≡ length ops → unclaims + held ≡ total
  pub released : standing.retired ≡ true → held ≡ 0

-- how many cells a mutator claims after a history
abbrev pub claims_after : Layout → List Event → ℕ → ℕ
claims_after layout history who = length ((state_after layout history).claims who)

-- at a moment all of a mutator's operations were done, and it held so many claims
pub record WasDone (layout : Layout) (history : List Event) (who : ℕ) (ops : List Op) (moment total : ℕ) : Type 0 where
  pub script : script_of who (take moment history) ≡ ops
  pub claims : claims_after layout (take moment history) who ≡ total

-- the operation's operands are there, and it isn't to retire
pub record IsAskable (layout : Layout) (op : Op) : Type 0 where
  pub fits : FitsLayout layout op
  pub goes_on : is_retire op ≡ false

-- an operation that a mutator with a script asks for: one of the script, or what leaves the store
pub data IsAskedBy (ops : List Op) : Op → Type 0 where
  of_script : (place : ℕ) (op : Op) → slice_get ops place ≡ Some op → IsAskedBy ops op
  asks_unclaim : IsAskedBy ops Unclaim
  asks_retire : IsAskedBy ops Retire

-- how far a cursor's mutator is
abbrev pub standing_of : ScriptCursor → Standing
standing_of cursor = record { done = cursor.done; retry = cursor.retry; retired = cursor.retired }

-- a mutator is so far in a history, with these calls
pub record IsMutatorAt (setting : Setting) (history : List Event) (who : ℕ) (ops : List Op) (standing : Standing)
    (calls : List (Op × Reply)) : Type 0 where
  pub is_mutator : who < setting.layout.mutators
  pub askable : All (IsAskable setting.layout) ops
  pub total : ℕ
  pub moment : ℕ
  pub in_history : moment ≤ length history
  pub was_done : standing.done ≡ length ops → WasDone setting.layout history who ops moment total
  pub at : IsAt ops standing (script_of who history) total (claims_after setting.layout history who)
  pub retry : standing.retry ≡ is_some (retry_of who history)
  pub retries : (op : Op) → retry_of who history ≡ Some op → slice_get ops standing.done ≡ Some op
  pub active : (state_after setting.layout history).active who ≡ not standing.retired
  pub are : calls_of who history ≡ calls
  pub asked : All (λ call. IsAskedBy ops call.0) calls

-- what a cursor has of its mutator's calls is what this history has
abbrev pub IsCursorAt : Setting → List Event → ScriptCursor → Type 0
IsCursorAt setting history cursor =
    IsMutatorAt setting history cursor.who cursor.ops.items (standing_of cursor) (map pair_of cursor.calls.items)

-- what a cursor has of its mutator's calls is what the history has
abbrev pub IsCursor : Recorded → ScriptCursor → Type 0
IsCursor recorded cursor = IsCursorAt recorded.setting recorded.history cursor

-- a cursor recorded a reply
pub record TookReply (old new : ScriptCursor) (op : Op) (reply : Reply) : Type 0 where
  pub who : new.who ≡ old.who
  pub ops : new.ops ≡ old.ops
  pub standing : standing_of new ≡ after_reply old.ops.items (standing_of old) op reply
  pub calls : new.calls.items ≡ old.calls.items ++ record { op = op; reply = reply } ∷ []

-- a mutator with these operations that has made no call
pub record IsNew (who : ℕ) (cursor : ScriptCursor) : Type 0 where
  pub number : cursor.who ≡ who
  pub standing : standing_of cursor ≡ record { done = 0; retry = false; retired = false }
  pub no_calls : cursor.calls.items ≡ []

-- the scripts of some cursors
abbrev pub scripts_of : List ScriptCursor → List (List Op)
scripts_of cursors = map (λ cursor. cursor.ops.items) cursors

-- a mutator for each list of operations, in order
pub record AreNew (cursors : List ScriptCursor) (scripts : List (List Op)) : Type 0 where
  pub scripts_are : scripts_of cursors ≡ scripts
  pub each : (who : ℕ) (cursor : ScriptCursor) → slice_get cursors who ≡ Some cursor → IsNew who cursor
