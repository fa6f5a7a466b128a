-- What a realm has, and that it keeps its jobs: what a job keeps isn't freed before it ends, and each weak handle tells
-- whether its target is gone.
use Rattle.std.specs.Prelude.{ℕ, ◌≡◌, ◌≢◌, ◌+◌, ◌<◌, ◌≤◌, List, length, slice_index, All}
use Rattle.tide_heap.specs.tide_core.declared.machine.view.View.{View}
use Rattle.tide_model.specs.Caller.{IsOwn}
use Rattle.tide_model.specs.History.{state_after}
use Rattle.tide_model.specs.Layout.{Layout}
use Rattle.tide_model.specs.Prefix.{IsPrefix}
use Rattle.tide_model.specs.declared.entry.Event.{Event}
use Rattle.tide_model.specs.declared.op.Op.{Op}
use Rattle.tide_model.specs.declared.op.Op.TheVariants.{Alloc, Table, Get, Put, Move, Set, Drop, Claim, Release, Unclaim, Add, GetProp, SetProp, StrongSet, StrongGet, WeakSet, WeakGet, PairSet, PairGet, PairDel, Group, Collect, Retire}
use Rattle.tide_model.specs.declared.val.Val.{Val}
use Rattle.tide_model.specs.declared.val.Val.TheVariants.{Empty}
use Rattle.tide_weakref.specs.Handles.{IsIn, OthersLeave, StrongKeeps, WeakStands}
use Rattle.tide_weakref.specs.declared.range.Range16.{Range16}
use Rattle.tide_weakref.specs.declared.weak.Weak.{Weak}

-- What a realm has: its scratch register, its strong and its weak handles, its weak handles in use, in the order in
-- which they were taken, and the cells that it keeps until the job ends, the first in its first strong handle.
pub record Jobs : Type 0 where
  pub scratch : ℕ
  pub strong : Range16
  pub weak : Range16
  pub uses : List Weak
  pub cells : List ℕ

-- the number of a weak handle in use
abbrev pub handle_of : Jobs → Weak → ℕ
handle_of jobs one = jobs.weak.first + one.at

-- what a mutator's registers hold
abbrev pub registers_of : Layout → ℕ → List Event → ℕ → Val
registers_of layout who seen = (state_after layout seen).registers who

-- the realm's register and handles are of the layout
pub record IsOfLayout (layout : Layout) (jobs : Jobs) : Type 0 where
  pub scratch : jobs.scratch < layout.registers
  pub strong : jobs.strong.first + jobs.strong.count ≤ layout.strong
  pub weak : jobs.weak.first + jobs.weak.count ≤ layout.weak

-- each of its weak handles in use is one of its own, and so is that of each kept cell
pub record AreWithin (jobs : Jobs) : Type 0 where
  pub uses : All (λ one. one.at < jobs.weak.count) jobs.uses
  pub cells : length jobs.cells ≤ jobs.strong.count

-- the operation's registers are others than this, and its handles none of these
abbrev pub Spares : ℕ → Range16 → Range16 → Op → Type 0
Spares scratch strong weak (Alloc dst class) = dst ≢ scratch
Spares scratch strong weak (Table dst) = dst ≢ scratch
Spares scratch strong weak (Get dst src slot) = (dst ≢ scratch) × (src ≢ scratch)
Spares scratch strong weak (Put src slot val) = (src ≢ scratch) × (val ≢ scratch)
Spares scratch strong weak (Move dst src) = (dst ≢ scratch) × (src ≢ scratch)
Spares scratch strong weak (Set dst n) = dst ≢ scratch
Spares scratch strong weak (Drop dst) = dst ≢ scratch
Spares scratch strong weak (Claim src) = src ≢ scratch
Spares scratch strong weak (Release src) = src ≢ scratch
Spares scratch strong weak Unclaim = Unit {0}
Spares scratch strong weak (Add src key val) = (src ≢ scratch) × (val ≢ scratch)
Spares scratch strong weak (GetProp dst src key) = (dst ≢ scratch) × (src ≢ scratch)
Spares scratch strong weak (SetProp src key val) = (src ≢ scratch) × (val ≢ scratch)
Spares scratch strong weak (StrongSet at val) = (IsIn strong at → ⊥) × (val ≢ scratch)
Spares scratch strong weak (StrongGet dst at) = (dst ≢ scratch) × (IsIn strong at → ⊥)
Spares scratch strong weak (WeakSet at val) = (IsIn weak at → ⊥) × (val ≢ scratch)
Spares scratch strong weak (WeakGet dst at) = (dst ≢ scratch) × (IsIn weak at → ⊥)
Spares scratch strong weak (PairSet src key val) = (src ≢ scratch) × (key ≢ scratch) × (val ≢ scratch)
Spares scratch strong weak (PairGet dst src key) = (dst ≢ scratch) × (src ≢ scratch) × (key ≢ scratch)
Spares scratch strong weak (PairDel src key) = (src ≢ scratch) × (key ≢ scratch)
Spares scratch strong weak (Group src n) = src ≢ scratch
Spares scratch strong weak Collect = Unit {0}
Spares scratch strong weak Retire = Unit {0}

-- no call of another mutator sets one of the realm's handles
abbrev pub OthersSpare : ℕ → Jobs → List Event → Type 0
OthersSpare who jobs seen = OthersLeave who jobs.strong jobs.weak seen

-- Each weak handle in use has its target, or is empty, and empty exactly where an end since it was set freed the
-- target. Each kept cell is in its strong handle, and no end since that was set freed it.
pub record Stands (layout : Layout) (jobs : Jobs) (seen : List Event) : Type 0 where
  pub uses : All (λ one. WeakStands layout seen (handle_of jobs one) one.target) jobs.uses
  pub cells : (place : ℕ) → place < length jobs.cells →
      StrongKeeps layout seen (jobs.strong.first + place) (slice_index jobs.cells place)

-- What a realm has stands after a history, of whose calls these are its mutator's, where no other mutator sets its
-- handles.
pub record HoldsJobs (layout : Layout) (who : ℕ) (jobs : Jobs) (seen mine : List Event) : Type 0 where
  pub of_layout : IsOfLayout layout jobs
  pub within : AreWithin jobs
  pub own : IsOwn who seen mine
  pub stands : OthersSpare who jobs seen → Stands layout jobs seen

-- A realm keeps its jobs after a history: what it has stands, and its scratch register is empty.
pub record KeepsJobs (layout : Layout) (who : ℕ) (jobs : Jobs) (seen mine : List Event) : Type 0 where
  pub holds : HoldsJobs layout who jobs seen mine
  pub scratch : registers_of layout who seen jobs.scratch ≡ Empty

-- It kept them after a beginning of what its mutator has seen, in which all of the mutator's calls are: so it does
-- after the next call.
pub record HasKeptJobs (layout : Layout) (v : View) (jobs : Jobs) : Type 0 where
  pub at : List Event
  pub earlier : IsPrefix at v.seen
  pub keeps : KeepsJobs layout v.who jobs at v.mine
