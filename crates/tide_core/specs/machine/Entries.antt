-- The entry that a step makes, by its kind and the word that it finds.
use Rattle.std.specs.Int.{bit_at}
use Rattle.std.specs.Prelude.{ℕ, ◌+◌, ◌*◌, ◌-◌, List, [], ◌∷◌, ◌++◌, length, ◌==◌, if◌then◌else◌, Option, None, Some}
use Rattle.tide_words.specs.tide_layout.Region.{cell_block_count}
use Rattle.tide_core.specs.machine.Kind.{Kind, Retire, StoreRegister, StoreCall, LoadStrong, StoreStrong, LoadWeak, StoreWeak, LoadLink, StoreLink, TakeFree, LoadPair, StorePair, StoreGroup, LoadClaim, TakeClaim, Release, LoadElement, StoreElement, TakeArray, StoreStructure, ClaimBlock, GiveBits}
use Rattle.tide_core.specs.machine.Words.{value_of, value_of_pair}
use Rattle.tide_model.specs.History.{plain}
use Rattle.tide_model.specs.Layout.{Layout, array_class_for}
use Rattle.tide_model.specs.Refused.{ShapeLists, refusal_of, table_class}
use Rattle.tide_model.specs.State.{State}
use Rattle.tide_model.specs.declared.entry.Entry.TheVariants.{Call, Sweep, Taken}
use Rattle.tide_model.specs.declared.entry.Event.{Event}
use Rattle.tide_model.specs.declared.op.Op.{Op}
use Rattle.tide_model.specs.declared.op.Op.TheVariants as op
use Rattle.tide_model.specs.declared.op.Refusal.{Refusal}
use Rattle.tide_model.specs.declared.op.Refusal.TheVariants.{Full}
use Rattle.tide_model.specs.declared.op.Reply.{Reply}
use Rattle.tide_model.specs.declared.op.Reply.TheVariants.{Done, Born, Seen, Asked, Refused}
use Rattle.tide_model.specs.declared.val.Val.{Val}
use Rattle.tide_model.specs.declared.val.Val.TheVariants.{Empty, Int, Cell}

-- the class for one more property of the cell that a value names
abbrev pub class_for_value : State → Val → ℕ
class_for_value state (Cell cell) = array_class_for (length (state.cells cell).keys + 1)
class_for_value state Empty = 0
class_for_value state (Int n) = 0

-- the class of which an operation takes a cell or an array
abbrev pub class_taken : State → ℕ → Op → ℕ
class_taken state who (op.Alloc dst class) = class
class_taken state who (op.Table dst) = table_class
class_taken state who (op.Add src key val) = class_for_value state (state.registers who src)
class_taken state who _ = 0

-- the refusal that an operation meets, or else the one for want of room
abbrev pub refused_or_full : Option Refusal → ℕ → Reply
refused_or_full (Some refusal) class = Refused refusal
refused_or_full None class = Refused (Full class)

-- what an operation is answered at a step on its caller's own call word
abbrev pub reply_of_call : Layout → ShapeLists → State → ℕ → Op → Reply
reply_of_call layout shapes state who op.Collect = Asked
reply_of_call layout shapes state who o =
    refused_or_full (refusal_of layout shapes state who o) (class_taken state who o)

-- a call, and the array that it took or none
abbrev pub call_of : ℕ → Op → Reply → Option ℕ → Event
call_of who o reply took = record { entry = Call who o reply; took = took }

-- The entry that a kind makes, by the state before it, who makes it and the word that it finds: each call stands at one
-- step, and no other step makes an entry.
abbrev pub entry_of : Layout → ShapeLists → State → ℕ → Kind → ℕ → Option Event
entry_of layout shapes state who (Retire (Some o)) read = Some (call_of who o Done None)
entry_of layout shapes state who (StoreRegister register word (Some o)) read = Some (call_of who o Done None)
entry_of layout shapes state who (StoreCall word (Some o)) read =
    Some (call_of who o (reply_of_call layout shapes state who o) None)
entry_of layout shapes state who (LoadStrong handle (Some o)) read = Some (call_of who o (Seen (value_of read)) None)
entry_of layout shapes state who (StoreStrong handle word (Some o)) read = Some (call_of who o Done None)
entry_of layout shapes state who (LoadWeak handle (Some o)) read = Some (call_of who o (Seen (value_of read)) None)
entry_of layout shapes state who (StoreWeak handle word (Some o)) read = Some (call_of who o Done None)
entry_of layout shapes state who (LoadLink cell slot (Some o)) read = Some (call_of who o (Seen (value_of read)) None)
entry_of layout shapes state who (StoreLink cell slot word (Some o)) read = Some (call_of who o Done None)
entry_of layout shapes state who (TakeFree block k (Some o)) read =
    if bit_at read k == 1 then Some (call_of who o (Born (64 * block + k)) None) else None
entry_of layout shapes state who (LoadPair table place (Some o)) read =
    Some (call_of who o (Seen (value_of_pair read)) None)
entry_of layout shapes state who (StorePair table place word (Some o)) read = Some (call_of who o Done None)
entry_of layout shapes state who (StoreGroup cell word (Some o)) read = Some (call_of who o Done None)
entry_of layout shapes state who (LoadClaim cell (Some o)) read =
    Some (call_of who o (reply_of_call layout shapes state who o) None)
entry_of layout shapes state who (TakeClaim cell holder (Some o)) read =
    Some (call_of who o (if read == 0 then Done else reply_of_call layout shapes state who o) None)
entry_of layout shapes state who (Release cell (Some o)) read = Some (call_of who o Done None)
entry_of layout shapes state who (LoadElement array place (Some o)) read =
    Some (call_of who o (Seen (value_of read)) None)
entry_of layout shapes state who (StoreElement array place word (Some o)) read = Some (call_of who o Done None)
entry_of layout shapes state who (TakeArray block k old next (Some o)) read =
    if bit_at read k == 1 then Some (call_of who o Done (Some (64 * (block - cell_block_count layout) + k)))
    else None
entry_of layout shapes state who (StoreStructure cell word (Some o)) read = Some (call_of who o Done None)
entry_of layout shapes state who (ClaimBlock block old cycle) read =
    if read == old then Some (plain (Taken block)) else None
entry_of layout shapes state who (GiveBits block bits) read = Some (plain (Sweep block))
entry_of layout shapes state who _ read = None

-- a history after a step that makes an entry or none
abbrev pub added : List Event → Option Event → List Event
added log None = log
added log (Some event) = log ++ event ∷ []
