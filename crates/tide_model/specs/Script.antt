-- What a mutator asked for, as its own list of operations has it.
use Rattle.std.specs.Prelude.{ℕ, ◌==◌, Bool, true, false, List, [], ◌∷◌, ◌++◌, if◌then◌else◌, Option, None, Some, is_some}
use Rattle.tide_model.specs.declared.op.Op.{Op}
use Rattle.tide_model.specs.declared.op.Op.TheVariants.{Retire}
use Rattle.tide_model.specs.declared.op.Reply.{Reply}
use Rattle.tide_model.specs.declared.op.Reply.TheVariants.{Refused}
use Rattle.tide_model.specs.declared.op.Refusal.{Refusal}
use Rattle.tide_model.specs.declared.op.Refusal.TheVariants.{Full}
use Rattle.tide_model.specs.declared.entry.Entry.{Entry}
use Rattle.tide_model.specs.declared.entry.Entry.TheVariants.{Call}
use Rattle.tide_model.specs.declared.entry.Event.{Event}

-- the mutator's call that an entry is, if it is one
abbrev pub own_calls : ℕ → Entry → List (Op × Reply)
own_calls mutator (Call who op reply) = if who == mutator then (op, reply) ∷ [] else []
own_calls mutator _ = []

-- a mutator's calls with their replies, in order
abbrev pub calls_of : ℕ → List Event → List (Op × Reply)
calls_of mutator [] = []
calls_of mutator (event ∷ events) = own_calls mutator event.entry ++ calls_of mutator events

-- the refusal is for want of room
abbrev pub is_full_refusal : Refusal → Bool
is_full_refusal (Full class) = true
is_full_refusal _ = false

-- the reply is a refusal for want of room
abbrev pub is_full_reply : Reply → Bool
is_full_reply (Refused refusal) = is_full_refusal refusal
is_full_reply _ = false

-- the operation is to retire
abbrev pub is_retire : Op → Bool
is_retire Retire = true
is_retire _ = false

-- The operation that is to be tried again after a call, if any, from the one that was to be tried at it: a first
-- refusal for room is tried once more, and a refusal of that second try is no first one.
abbrev pub retry_after : Option Op → Op × Reply → Option Op
retry_after None call = if is_full_reply call.1 then Some call.0 else None
retry_after (Some tried) call = None

-- the operation that is to be tried again after some calls
abbrev pub retry_after_all : Option Op → List (Op × Reply) → Option Op
retry_after_all retry [] = retry
retry_after_all retry (call ∷ calls) = retry_after_all (retry_after retry call) calls

-- the operation that the mutator has to try again after a history, if any
abbrev pub retry_of : ℕ → List Event → Option Op
retry_of who history = retry_after_all None (calls_of who history)

-- the operations of some calls, without each first refusal for room
abbrev pub script_from : Option Op → List (Op × Reply) → List Op
script_from retry [] = []
script_from retry (call ∷ calls) =
    (if is_some (retry_after retry call) then [] else call.0 ∷ []) ++ script_from (retry_after retry call) calls

-- a mutator's script: its operations in order, each once, so without each first refusal for room
abbrev pub script_of : ℕ → List Event → List Op
script_of mutator history = script_from None (calls_of mutator history)
