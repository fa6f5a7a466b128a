-- What becomes of a thread's root stack.
use Rattle.std.specs.Prelude.{ℕ, zero, suc, ◌≡◌, ◌+◌, ◌<◌, ◌≤◌, ◌⊎◌, Result, Err, Ok, min}
use Rattle.tide.specs.Threads.{Calling, HasCalled, HasDone, HasRunFullCycle, calling_of, op_of, part_of, stack_of}
use Rattle.tide.specs.declared.stop.Src.{Src}
use Rattle.tide.specs.declared.stop.Stop.{Stop}
use Rattle.tide.specs.declared.stop.Stop.TheVariants as stop
use Rattle.tide.specs.declared.thread.Thread.{Thread}
use Rattle.tide_server.specs.tide_model.declared.op.Op.TheVariants.{Collect, Drop}
use Rattle.tide_server.specs.tide_model.declared.op.Reply.TheVariants.{Asked}

-- What a push answers: a register above the root stack was set, and the stack is higher by one. Where no place is left
-- nothing was done, and where the register wasn't set the stack is as it was.
abbrev pub HasPushed : Thread → Thread → Src → Result ℕ Stop → Type 0
HasPushed old new val (Ok at) =
    HasDone (calling_of old) (calling_of new) (op_of old.top val) (Ok tt) × (at ≡ old.top)
    × (stack_of new ≡ record (stack_of old) { top = old.top + 1 })
HasPushed old new val (Err stop.Deep) = (calling_of new ≡ calling_of old) × (stack_of new ≡ stack_of old)
HasPushed old new val (Err other) =
    HasDone (calling_of old) (calling_of new) (op_of old.top val) (Err other) × (stack_of new ≡ stack_of old)

-- so many registers from the first of these on are emptied, one call each, the last of them first
abbrev pub HasEmptied : Calling → Calling → ℕ → ℕ → Type 0
HasEmptied old new first zero = new ≡ old
HasEmptied old new first (suc count) =
    (middle : Calling) × HasEmptied old middle (first + 1) count × HasDone middle new (Drop first) (Ok tt)

-- where the root stack ends once it is cut at a height
abbrev pub cut_to : Thread → ℕ → ℕ
cut_to old height = min old.top (old.base + height)

-- each register of the root stack above a height is emptied, and the stack ends there
pub record IsCut (old new : Thread) (height : ℕ) : Type 0 where
  pub count : ℕ
  pub all : cut_to old height + count ≡ old.top
  pub empties : HasEmptied (calling_of old) (calling_of new) (cut_to old height) count
  pub stack : stack_of new ≡ record (stack_of old) { top = cut_to old height }

-- those of them above one register are emptied, and then that one isn't, for this reason, and is the last of the stack
pub record IsCutAbove (old new : Thread) (height : ℕ) (why : Stop) : Type 0 where
  pub at : ℕ
  pub count : ℕ
  pub middle : Calling
  pub above : old.base + height ≤ at
  pub all : at + 1 + count ≡ old.top
  pub empties : HasEmptied (calling_of old) middle (at + 1) count
  pub stops : HasDone middle (calling_of new) (Drop at) (Err why)
  pub stack : stack_of new ≡ record (stack_of old) { top = at + 1 }

-- what a cut answers
abbrev pub HasCut : Thread → Thread → ℕ → Result (Unit {0}) Stop → Type 0
HasCut old new height (Ok done) = IsCut old new height
HasCut old new height (Err why) = IsCutAbove old new height why

-- the register for operands is emptied, a cycle is asked for, and the register is emptied again, in a later part,
-- behind a full cycle
pub record HasAskedForCycle (old new : Calling) (at : ℕ) (result : Result (Unit {0}) Stop) : Type 0 where
  pub emptied : Calling
  pub asked : Calling
  pub empties : HasDone old emptied (Drop at) (Ok tt)
  pub asks : HasCalled emptied asked Collect (Ok Asked)
  pub goes_on : HasDone asked new (Drop at) result
  pub later : result ≡ Ok tt → part_of asked.own < part_of new.own
  pub cycle : result ≡ Ok tt → HasRunFullCycle asked.own new.own

-- What a call answers that has a cycle run. Where the register for operands can't be emptied, it asks for none.
abbrev pub HasCollected : Calling → Calling → ℕ → Result (Unit {0}) Stop → Type 0
HasCollected old new at result =
    ((why : Stop) × HasDone old new (Drop at) (Err why) × (result ≡ Err why))
    ⊎ HasAskedForCycle old new at result
