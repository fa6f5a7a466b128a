-- What a thread of a runtime does to the history and to what it keeps of its registers.
use Rattle.std.specs.Prelude.{ℕ, ◌≡◌, ◌≢◌, ◌-◌, ◌<◌, ◌≤◌, ◌⊎◌, Bool, false, true, List, Option, None, Some, Result, Err, Ok}
use Rattle.tide.specs.Asking.{Asks, past_of}
use Rattle.tide.specs.Registers.{told_after}
use Rattle.tide.specs.declared.own.Own.{Own}
use Rattle.tide.specs.declared.stop.Src.{Src}
use Rattle.tide.specs.declared.stop.Src.TheVariants as src
use Rattle.tide.specs.declared.stop.Stop.{Stop}
use Rattle.tide.specs.declared.stop.Stop.TheVariants as stop
use Rattle.tide.specs.declared.thread.Thread.{Thread}
use Rattle.tide_server.specs.Members.{begins_next, is_over, last_part}
use Rattle.tide_server.specs.tide_model.Lawful.{FitsLayout}
use Rattle.tide_server.specs.tide_model.Layout.{cell_count, class_of}
use Rattle.tide_server.specs.tide_model.Script.{is_full_reply}
use Rattle.tide_server.specs.tide_model.Share.{is_asked}
use Rattle.tide_server.specs.tide_model.declared.op.Op.{Op}
use Rattle.tide_server.specs.tide_model.declared.op.Op.TheVariants.{Drop, Move, Retire, Set}
use Rattle.tide_server.specs.tide_model.declared.op.Refusal.TheVariants as refusal
use Rattle.tide_server.specs.tide_model.declared.op.Reply.{Reply}
use Rattle.tide_server.specs.tide_model.declared.op.Reply.TheVariants.{Born, Refused, Seen}
use Rattle.tide_server.specs.tide_model.declared.val.Val.{Val}
use Rattle.tide_server.specs.tide_model.declared.val.Val.TheVariants.{Cell, Empty}
use Rattle.tide_server.specs.tide_mutator.calls.Viewed.{view_of}
use Rattle.tide_server.specs.tide_posts.FullCycles.{RanFullCycle}
use Rattle.tide_server.specs.tide_posts.Schedule.{OpensLater}
use Rattle.tide_server.specs.tide_shape.Lists.{lists_of}

-- of a thread what its calls change: its member, and what it keeps of its registers
pub record Calling : Type 0 where
  pub own : Option Own
  pub told : List Val

abbrev pub calling_of : Thread → Calling
calling_of t = record { own = t.own; told = t.told }

-- and its root stack
pub record Stack : Type 0 where
  pub base : ℕ
  pub top : ℕ
  pub end : ℕ

abbrev pub stack_of : Thread → Stack
stack_of t = record { base = t.base; top = t.top; end = t.end }

-- the first register that its root stack has
abbrev pub base_of : Thread → ℕ
base_of t = t.base

-- its number
abbrev pub number_of : Option Own → ℕ
number_of (Some own) = (view_of own.member.mutator).who
number_of None = 0

-- the number of the last part that its member has seen opened: after a call, of the part in which that call stands
abbrev pub part_of : Option Own → ℕ
part_of (Some own) = last_part own.member
part_of None = 0

-- behind what the one's member has seen a full cycle ran, in what the other's has
abbrev pub HasRunFullCycle : Option Own → Option Own → Type 0
HasRunFullCycle (Some old) (Some new) =
    RanFullCycle (view_of old.member.mutator).seen (view_of new.member.mutator).seen
HasRunFullCycle _ _ = ⊥

-- A member makes a call of its heap, which is tried again where it found no room. Where its share of its part was over,
-- it does so in a later part; and once it has asked for a cycle its share is over.
pub record OwnAsks (old new : Own) (op : Op) (reply : Reply) : Type 0 where
  pub heap : new.standing ≡ old.standing
  pub who : (view_of new.member.mutator).who ≡ (view_of old.member.mutator).who
  pub asks : Asks old.standing.now.heap.key.layout (lists_of old.standing.now.heap.key.shapes)
      (view_of old.member.mutator).who op reply (past_of old.member) (past_of new.member)
  pub later : begins_next old.member ≡ true → OpensLater old.standing.now.heap.key.layout
      (view_of old.member.mutator).seen (view_of new.member.mutator).seen
  pub over : is_asked reply ≡ true → is_over new.member ≡ true

abbrev pub HasAsked : Option Own → Option Own → Op → Reply → Type 0
HasAsked (Some old) (Some new) op reply = OwnAsks old new op reply
HasAsked _ _ op reply = ⊥

-- the operation is one of its heap, and goes on
abbrev pub IsFit : Option Own → Op → Type 0
IsFit (Some own) op = FitsLayout own.standing.now.heap.key.layout op × (op ≢ Retire)
IsFit None op = ⊥

-- What a call of a thread answers. Where it is answered by the heap, it was made, and once more, in a later part, where
-- it found no room; what the registers hold was kept. Where the operation isn't fit nothing was done.
abbrev pub HasCalled : Calling → Calling → Op → Result Reply Stop → Type 0
HasCalled old new op (Ok reply) =
    HasAsked old.own new.own op reply × (is_full_reply reply ≡ false) × (new.told ≡ told_after op reply old.told)
HasCalled old new op (Err (stop.Full class)) =
    HasAsked old.own new.own op (Refused (refusal.Full class)) × (new.told ≡ old.told)
HasCalled old new op (Err stop.Unfit) = (¬ (IsFit old.own op)) × (new ≡ old)
HasCalled old new op (Err _) = ⊥

-- a reply is a refusal
abbrev pub is_refused : Reply → Bool
is_refused (Refused refusal) = true
is_refused _ = false

-- the value that a reply tells
abbrev pub value_of : Reply → Val
value_of (Born cell) = Cell cell
value_of (Seen val) = val
value_of _ = Empty

-- what a call answers that gives a value of its reply
abbrev pub HasGiven : {X : Type 0} → (Reply → X) → Calling → Calling → Op → Result X Stop → Type 0
HasGiven of old new op (Ok given) =
    (reply : Reply) × HasCalled old new op (Ok reply) × (is_refused reply ≡ false) × (of reply ≡ given)
HasGiven of old new op (Err (stop.Refused refusal)) = HasCalled old new op (Ok (Refused refusal))
HasGiven of old new op (Err (stop.Full class)) = HasCalled old new op (Err (stop.Full class))
HasGiven of old new op (Err stop.Unfit) = HasCalled old new op (Err stop.Unfit)
HasGiven of old new op (Err stop.Deep) = ⊥

-- what a call answers that is to be done, and one that is to tell a value
abbrev pub HasDone : Calling → Calling → Op → Result (Unit {0}) Stop → Type 0
HasDone = HasGiven (λ reply. tt)

abbrev pub HasTold : Calling → Calling → Op → Result Val Stop → Type 0
HasTold = HasGiven value_of

-- the operation that puts an operand into a register
abbrev pub op_of : ℕ → Src → Op
op_of dst (src.Reg register) = Move dst register
op_of dst (src.Int n) = Set dst n
op_of dst src.Empty = Drop dst

-- the register for operands: the last one below the root stack
abbrev pub scratch_of : ℕ → ℕ
scratch_of base = base - 1

-- the register that holds an operand: the one that it names, or else the one for operands, into which it was put
abbrev pub HasBrought : Calling → Calling → ℕ → Src → Result ℕ Stop → Type 0
HasBrought old new base (src.Reg register) result = (new ≡ old) × (result ≡ Ok register)
HasBrought old new base val (Ok at) = (at ≡ scratch_of base) × HasDone old new (op_of at val) (Ok tt)
HasBrought old new base val (Err why) = HasDone old new (op_of (scratch_of base) val) (Err why)

-- What a call answers that stores an operand. Where it couldn't be put into a register the call wasn't made.
abbrev pub HasStored : Calling → Calling → ℕ → (ℕ → Op) → Src → Result (Unit {0}) Stop → Type 0
HasStored old new base op val result =
    ((middle : Calling) × (register : ℕ) × HasBrought old middle base val (Ok register)
    × HasDone middle new (op register) result)
    ⊎ ((why : Stop) × HasBrought old new base val (Err why) × (result ≡ Err why))

-- the class of a cell with this number, if the heap has one
abbrev pub IsClassOf : Option Own → ℕ → Option ℕ → Type 0
IsClassOf (Some own) cell (Some class) =
    (cell < cell_count own.standing.now.heap.key.layout) × (class ≡ class_of own.standing.now.heap.key.layout cell)
IsClassOf (Some own) cell None = cell_count own.standing.now.heap.key.layout ≤ cell
IsClassOf None cell class = ⊥
