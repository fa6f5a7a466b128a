-- What a thread does to a cell that it claims meanwhile.
use Rattle.std.specs.Prelude.{ℕ, ◌≡◌, ◌≢◌, ◌==◌, ◌⊎◌, Bool, false, true, Option, None, Some, Result, Err, Ok, if◌then◌else◌}
use Rattle.tide.specs.Threads.{Calling, HasBrought, HasCalled, HasDone, number_of, scratch_of}
use Rattle.tide.specs.declared.stop.Src.{Src}
use Rattle.tide.specs.declared.stop.Stop.{Stop}
use Rattle.tide.specs.declared.stop.Stop.TheVariants as stop
use Rattle.tide_server.specs.tide_model.declared.op.Op.{Op}
use Rattle.tide_server.specs.tide_model.declared.op.Op.TheVariants.{Add, Claim, Move, Release, SetProp}
use Rattle.tide_server.specs.tide_model.declared.op.Refusal.TheVariants.{Absent, Held}
use Rattle.tide_server.specs.tide_model.declared.op.Reply.{Reply}
use Rattle.tide_server.specs.tide_model.declared.op.Reply.TheVariants.{Refused, Seen}
use Rattle.tide_server.specs.tide_model.declared.val.Val.{Val}

-- what is made of a call's answer, as its reply tells
abbrev pub by_reply : {X : Type 0} → (Reply → Result X Stop) → Result Reply Stop → Result X Stop
by_reply of (Ok reply) = of reply
by_reply of (Err why) = Err why

-- whether the mutator with this number claimed a cell by the call with this reply: not where it claims it already
abbrev pub claimed_by : ℕ → Reply → Result Bool Stop
claimed_by who (Refused (Held by)) = if by == who then Ok false else Err (stop.Refused (Held by))
claimed_by who (Refused refusal) = Err (stop.Refused refusal)
claimed_by who _ = Ok true

-- the value that a call read, as its reply tells, if it was there
abbrev pub read_by : Reply → Result (Option Val) Stop
read_by (Seen val) = Ok (Some val)
read_by (Refused Absent) = Ok None
read_by (Refused refusal) = Err (stop.Refused refusal)
read_by _ = Ok None

-- whether a call was done, as its reply tells
abbrev pub done_by : Reply → Result (Unit {0}) Stop
done_by (Refused refusal) = Err (stop.Refused refusal)
done_by _ = Ok tt

-- The cell in a register is claimed, or the thread claims it already. By the register for operands none is claimed.
abbrev pub HasClaimed : Calling → Calling → ℕ → ℕ → Result Bool Stop → Type 0
HasClaimed old new base src result =
    ((src ≡ scratch_of base) × (new ≡ old) × (result ≡ Err stop.Unfit))
    ⊎ ((src ≢ scratch_of base) × (answer : Result Reply Stop) × HasCalled old new (Claim src) answer
    × (result ≡ by_reply (claimed_by (number_of old.own)) answer))

-- a claim that was made is given up
abbrev pub HasReleased : Calling → Calling → ℕ → Bool → Type 0
HasReleased old new src true = (answer : Result Reply Stop) × HasCalled old new (Release src) answer
HasReleased old new src false = new ≡ old

-- what a thread does, and what it is answered
abbrev pub Doing : Type 1
Doing = Calling → Calling → Result Reply Stop → Type 0

-- the cell in a register is claimed, then this is done, and then a claim that was made is given up
pub record IsDoneUnderClaim (does : Doing) (old new : Calling) (base src : ℕ) (answer : Result Reply Stop) : Type 0 where
  pub claimed : Bool
  pub from : Calling
  pub to : Calling
  pub claims : HasClaimed old from base src (Ok claimed)
  pub done : does from to answer
  pub releases : HasReleased to new src claimed

-- this is done to the cell in a register, which is claimed meanwhile; where it can't be claimed nothing is done
abbrev pub HasDoneUnderClaim : Doing → Calling → Calling → ℕ → ℕ → Result Reply Stop → Type 0
HasDoneUnderClaim does old new base src answer =
    ((why : Stop) × HasClaimed old new base src (Err why) × (answer ≡ Err why))
    ⊎ IsDoneUnderClaim does old new base src answer

-- one call is made
abbrev pub Calls : Op → Doing
Calls op old new answer = HasCalled old new op answer

-- a property is set, or added where the cell's shape lacks the key
abbrev pub SetsOrAdds : ℕ → ℕ → ℕ → Doing
SetsOrAdds src key val old new answer =
    (HasCalled old new (SetProp src key val) answer × (answer ≢ Ok (Refused Absent)))
    ⊎ ((middle : Calling) × HasCalled old middle (SetProp src key val) (Ok (Refused Absent))
    × HasCalled middle new (Add src key val) answer)

-- the register that a value is read to first: the one for operands, where the cell lies in the one that it is for
abbrev pub place_of : ℕ → ℕ → ℕ → ℕ
place_of base dst src = if dst == src then scratch_of base else dst

-- what moving a value answers that was read
abbrev pub moved_by : Val → Result (Unit {0}) Stop → Result (Option Val) Stop
moved_by val (Ok done) = Ok (Some val)
moved_by val (Err why) = Err why

-- a value that was read is moved to the register that it is for, if it lies in another
abbrev pub HasMoved : Calling → Calling → ℕ → ℕ → Result (Option Val) Stop → Result (Option Val) Stop → Type 0
HasMoved old new dst place (Ok (Some val)) result =
    ((place ≡ dst) × (new ≡ old) × (result ≡ Ok (Some val)))
    ⊎ ((place ≢ dst) × (moved : Result (Unit {0}) Stop) × HasDone old new (Move dst place) moved
    × (result ≡ moved_by val moved))
HasMoved old new dst place read result = (new ≡ old) × (result ≡ read)

-- What a call answers that reads from the cell in a register, which is claimed meanwhile. `op` is the operation that
-- reads to a register.
pub record HasRead (op : ℕ → Op) (old new : Calling) (base dst src : ℕ) (result : Result (Option Val) Stop) : Type 0 where
  pub answer : Result Reply Stop
  pub read : Calling
  pub reads : HasDoneUnderClaim (Calls (op (place_of base dst src))) old read base src answer
  pub moves : HasMoved read new dst (place_of base dst src) (by_reply read_by answer) result

-- what a call answers that does this to the cell in a register, which is claimed meanwhile
abbrev pub HasChanged : Doing → Calling → Calling → ℕ → ℕ → Result (Unit {0}) Stop → Type 0
HasChanged does old new base src result =
    (answer : Result Reply Stop) × HasDoneUnderClaim does old new base src answer × (result ≡ by_reply done_by answer)

-- What a call answers that stores an operand in the cell in a register, which is claimed meanwhile. Where the operand
-- couldn't be put into a register nothing else is done. `does` is what is done with the register that holds it.
abbrev pub HasStoredUnderClaim : (ℕ → Doing) → Calling → Calling → ℕ → ℕ → Src → Result (Unit {0}) Stop → Type 0
HasStoredUnderClaim does old new base src val result =
    ((why : Stop) × HasBrought old new base val (Err why) × (result ≡ Err why))
    ⊎ ((middle : Calling) × (register : ℕ) × HasBrought old middle base val (Ok register)
    × HasChanged (does register) middle new base src result)
