-- What a member's call comes to, by what it answers.
use Rattle.std.specs.Prelude.{ℕ, ◌≡◌, ◌≢◌, ◌≤◌, ◌<◌, ◌+◌, ◌-◌, false, true, MatchOption, None, Some, length}
use Rattle.std.specs.Arc.{arc_value}
use Rattle.tide.specs.tide_model.Caller.{MakesCall}
use Rattle.tide.specs.tide_model.Lawful.{FitsLayout}
use Rattle.tide.specs.tide_model.Prefix.{IsPrefix}
use Rattle.tide.specs.tide_model.Script.{retry_of}
use Rattle.tide.specs.tide_model.declared.op.Op.{Op}
use Rattle.tide.specs.tide_model.declared.op.Op.TheVariants.{Drop, Move, Retire}
use Rattle.tide.specs.tide_model.declared.op.Reply.{Reply}
use Rattle.tide.specs.tide_model.declared.op.Reply.TheVariants.{Done as IsDone}
use Rattle.tide.specs.tide_mutator.calls.Viewed.{view_of}
use Rattle.tide.specs.tide_mutator.owed.Standing.{claims_of}
use Rattle.tide.specs.tide_server.Members.{caller_of}
use Rattle.tide.specs.tide_shape.Lists.{lists_of}
use Rattle.tide_c.specs.Operations.{op_of, said}
use Rattle.tide_c.specs.declared.operation.Answer.{Answer}
use Rattle.tide_c.specs.declared.operation.Operation.{Operation as Numbers}
use Rattle.tide_c.specs.declared.party.MemberParty.{MemberParty}
use Rattle.tide_c.specs.declared.status.Status.{Status}
use Rattle.tide_c.specs.declared.status.Status.TheVariants.{Again, Claims, Deep, Done, Left, Operation, Retry, Wait}

-- it is of the same heap, and its root stack is as it was
pub record KeepsStack (old new : MemberParty) : Type 0 where
  pub shared : new.shared ≡ old.shared
  pub base : new.base ≡ old.base
  pub top : new.top ≡ old.top

-- it made this call, of which this is the reply, on its heap
abbrev pub Makes : MemberParty → MemberParty → Op → Reply → Type 0
Makes old new op reply = MakesCall (arc_value old.shared).heap.key.layout (lists_of (arc_value old.shared).heap.key.shapes)
    (view_of old.member.mutator).who op reply (view_of old.member.mutator).seen (view_of new.member.mutator).seen
    (view_of old.member.mutator).mine (view_of new.member.mutator).mine

-- It made no call: what it has made and claims is as it was. It may have begun a part or stopped in one, and heard more.
pub record MakesNone (old new : MemberParty) : Type 0 where
  pub stack : KeepsStack old new
  pub caller : caller_of new.member ≡ caller_of old.member
  pub seen : IsPrefix (view_of old.member.mutator).seen (view_of new.member.mutator).seen

-- another operation than this one is to be tried again first
abbrev pub TriesOther : MemberParty → Op → Type 0
TriesOther m op = (other : Op) × (retry_of (view_of m.member.mutator).who (view_of m.member.mutator).mine ≡ Some other)
    × (op ≢ other)

-- A call was made; or found no room a first time, and comes again; or nothing was made: no part is open for the member,
-- the operation is none of its heap or another one than the one that is to be tried again, or it has left.
abbrev pub HasCalled : MemberParty → MemberParty → Op → Reply → Status → Type 0
HasCalled old new op reply Done = KeepsStack old new × Makes old new op reply
    × (retry_of (view_of new.member.mutator).who (view_of new.member.mutator).mine ≡ None)
HasCalled old new op reply Again = KeepsStack old new × Makes old new op reply
    × (retry_of (view_of new.member.mutator).who (view_of new.member.mutator).mine ≡ Some op)
HasCalled old new op reply Wait = MakesNone old new × (old.member.works ≡ false) × (new.member.works ≡ false)
HasCalled old new op reply Operation = (new ≡ old) × (FitsLayout (arc_value old.shared).heap.key.layout op → ⊥)
HasCalled old new op reply Retry = (new ≡ old) × TriesOther old op
HasCalled old new op reply Left = (new ≡ old) × (old.has_left ≡ true)
HasCalled old new op reply _ = ⊥

-- It left for good; or nothing was made: no part is open for it, it claims cells, an operation is to be tried again, or
-- it had left.
abbrev pub HasLeft : MemberParty → MemberParty → Status → Type 0
HasLeft old new Done = KeepsStack old new × Makes old new Retire IsDone × (new.has_left ≡ true)
HasLeft old new Wait = MakesNone old new × (old.member.works ≡ false) × (new.member.works ≡ false)
HasLeft old new Claims = (new ≡ old) × (0 < length (claims_of (view_of old.member.mutator)))
HasLeft old new Retry = (new ≡ old) × ((other : Op)
    × (retry_of (view_of old.member.mutator).who (view_of old.member.mutator).mine ≡ Some other))
HasLeft old new Left = (new ≡ old) × (old.has_left ≡ true)
HasLeft old new _ = ⊥

-- it made no call, and is in the midst of no part; or it had left
abbrev pub HasRested : MemberParty → MemberParty → Status → Type 0
HasRested old new Done = MakesNone old new × (new.member.works ≡ false)
HasRested old new Left = (new ≡ old) × (old.has_left ≡ true)
HasRested old new _ = ⊥

-- The member's answer to the operation that these numbers say, if they say one: what C reads is the reply of the call
-- that was made, and as it was where none was.
abbrev pub told_by : Status → Reply → Answer → Answer
told_by Done reply before = said reply
told_by Again reply before = said reply
told_by status reply before = before

abbrev pub HasAnswered : Numbers → Answer → Answer → MemberParty → MemberParty → Status → Type 0
HasAnswered numbers before after old new status = MatchOption (op_of numbers)
    ((new ≡ old) × (after ≡ before) × (status ≡ Operation))
    (λ op. (reply : Reply) × HasCalled old new op reply status × (after ≡ told_by status reply before))

-- The operation put a value at the first free place of the root stack, of which C reads the register; or its call
-- wasn't made, and the stack and what C reads are as they were.
abbrev pub HasPushed : ℕ → ℕ → ℕ → MemberParty → MemberParty → Status → Type 0
HasPushed src before at old new Done = (old.top < (arc_value old.shared).heap.key.layout.registers)
    × ((reply : Reply) × Makes old new (Move old.top src) reply)
    × (new.shared ≡ old.shared) × (new.base ≡ old.base) × (new.top ≡ old.top + 1) × (at ≡ old.top)
HasPushed src before at old new Deep =
    (new ≡ old) × (at ≡ before) × ((arc_value old.shared).heap.key.layout.registers ≤ old.top)
HasPushed src before at old new status = (old.top < (arc_value old.shared).heap.key.layout.registers)
    × ((reply : Reply) × HasCalled old new (Move old.top src) reply status) × (at ≡ before)

-- The value on top of the root stack was taken off, and its register is empty; or the call wasn't made.
abbrev pub HasPopped : MemberParty → MemberParty → Status → Type 0
HasPopped old new Done = (old.base < old.top) × ((reply : Reply) × Makes old new (Drop (old.top - 1)) reply)
    × (new.shared ≡ old.shared) × (new.base ≡ old.base) × (new.top + 1 ≡ old.top)
HasPopped old new Deep = (new ≡ old) × (old.top ≤ old.base)
HasPopped old new status =
    (old.base < old.top) × ((reply : Reply) × HasCalled old new (Drop (old.top - 1)) reply status)
