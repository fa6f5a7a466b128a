-- Which histories are lawful.
use Rattle.std.specs.Prelude.{ℕ, ◌≡◌, ◌<◌, ◌^◌, true, List, Option, None}
use Rattle.tide_model.specs.declared.op.Op.{Op}
use Rattle.tide_model.specs.declared.op.Op.TheVariants.{Alloc, Table, Get, Put, Move, Set, Drop, Claim, Release, Unclaim, Add, GetProp, SetProp, StrongSet, StrongGet, WeakSet, WeakGet, PairSet, PairGet, PairDel, Group, Collect, Retire}
use Rattle.tide_model.specs.declared.op.Reply.{Reply}
use Rattle.tide_model.specs.declared.op.Reply.TheVariants.{Refused}
use Rattle.tide_model.specs.declared.op.Refusal.TheVariants.{Full}
use Rattle.tide_model.specs.declared.entry.Entry.{Entry}
use Rattle.tide_model.specs.declared.entry.Entry.TheVariants.{Call, Begin, Pause, Visits, End, Taken, Sweep, Open}
use Rattle.tide_model.specs.declared.entry.Event.{Event}
use Rattle.tide_model.specs.Each.{Each}
use Rattle.tide_model.specs.Layout.{Layout}
use Rattle.tide_model.specs.History.{state_after}
use Rattle.tide_model.specs.Refused.{ShapeLists, table_class}
use Rattle.tide_model.specs.Answer.{IsAnswer}
use Rattle.tide_model.specs.Cycle.{StandsBegin, StandsEnd, StandsTaken, HasDead}
use Rattle.tide_model.specs.Room.{StandsRefused}

-- the operands of an operation are those of the layout: registers of its mutator, handles, and a class of cells with
-- slots; a number that is set, or that names a group, has 32 bits
abbrev pub FitsLayout : Layout → Op → Type 0
FitsLayout layout (Alloc dst class) = (dst < layout.registers) × (class < table_class)
FitsLayout layout (Table dst) = dst < layout.registers
FitsLayout layout (Get dst src slot) = (dst < layout.registers) × (src < layout.registers)
FitsLayout layout (Put src slot val) = (src < layout.registers) × (val < layout.registers)
FitsLayout layout (Move dst src) = (dst < layout.registers) × (src < layout.registers)
FitsLayout layout (Set dst n) = (dst < layout.registers) × (n < 2 ^ 32)
FitsLayout layout (Drop dst) = dst < layout.registers
FitsLayout layout (Claim src) = src < layout.registers
FitsLayout layout (Release src) = src < layout.registers
FitsLayout layout Unclaim = Unit {0}
FitsLayout layout (Add src key val) = (src < layout.registers) × (val < layout.registers)
FitsLayout layout (GetProp dst src key) = (dst < layout.registers) × (src < layout.registers)
FitsLayout layout (SetProp src key val) = (src < layout.registers) × (val < layout.registers)
FitsLayout layout (StrongSet at val) = (at < layout.strong) × (val < layout.registers)
FitsLayout layout (StrongGet dst at) = (dst < layout.registers) × (at < layout.strong)
FitsLayout layout (WeakSet at val) = (at < layout.weak) × (val < layout.registers)
FitsLayout layout (WeakGet dst at) = (dst < layout.registers) × (at < layout.weak)
FitsLayout layout (PairSet src key val) = (src < layout.registers) × (key < layout.registers) × (val < layout.registers)
FitsLayout layout (PairGet dst src key) = (dst < layout.registers) × (src < layout.registers) × (key < layout.registers)
FitsLayout layout (PairDel src key) = (src < layout.registers) × (key < layout.registers)
FitsLayout layout (Group src n) = (src < layout.registers) × (n < 2 ^ 32)
FitsLayout layout Collect = Unit {0}
FitsLayout layout Retire = Unit {0}

-- when a call may stand: its mutator is one of the layout and active, its operands are those of the layout, the reply
-- is an answer, and a refusal for room comes only where it may
pub record StandsCall (layout : Layout) (shapes : ShapeLists) (before : List Event) (who : ℕ) (op : Op) (reply : Reply) (took : Option ℕ) : Type 0 where
  pub is_mutator : who < layout.mutators
  pub is_active : (state_after layout before).active who ≡ true
  pub fits : FitsLayout layout op
  pub answers : IsAnswer layout shapes (state_after layout before) who op reply took
  pub room : (class : ℕ) → reply ≡ Refused (Full class) → StandsRefused layout before who class

-- when an entry may stand right after a history; only a call takes an array
abbrev pub StandsEntry : Layout → ShapeLists → List Event → Entry → Option ℕ → Type 0
StandsEntry layout shapes before (Call who op reply) took = StandsCall layout shapes before who op reply took
StandsEntry layout shapes before (Begin cycle full) took = (took ≡ None) × StandsBegin layout before cycle
StandsEntry layout shapes before (Pause visits) took = took ≡ None
StandsEntry layout shapes before (Visits who visits) took = took ≡ None
StandsEntry layout shapes before (End cycle freed) took = (took ≡ None) × StandsEnd layout before cycle freed
StandsEntry layout shapes before (Taken block) took = (took ≡ None) × StandsTaken layout before block
StandsEntry layout shapes before (Sweep block) took = (took ≡ None) × HasDead layout (state_after layout before) block
StandsEntry layout shapes before (Open number run) took = took ≡ None

-- when an event may stand right after a history
abbrev pub Stands : Layout → ShapeLists → List Event → Event → Type 0
Stands layout shapes before event = StandsEntry layout shapes before event.entry event.took

-- a history in which each event may stand right after those before it
abbrev pub IsLawful : Layout → ShapeLists → List Event → Type 0
IsLawful layout shapes history = Each (Stands layout shapes) history
