-- Points on sweeps of blocks: which cycle's sweep was taken, who names what is dead, and what a sweeper owes.
use Rattle.std.specs.Prelude.{ℕ, ◌≡◌, ◌↔◌, ◌⊎◌, ◌<◌, ◌≤◌, true, false, List, Contains, Some}
use Rattle.tide_words.specs.tide_layout.Region.{block_count}
use Rattle.tide_words.specs.tide_layout.declared.region.Region.{Region}
use Rattle.tide_words.specs.tide_layout.declared.region.Region.TheVariants as region
use Rattle.tide_core.specs.machine.Owed.{owed_word}
use Rattle.tide_core.specs.declared.machine.view.Saw.{Saw}
use Rattle.tide_core.specs.declared.machine.view.Sweeping.{Sweeping}
use Rattle.tide_core.specs.declared.machine.view.View.{View}
use Rattle.tide_core.specs.machine.kinds.Sweep.{IsSweeping}
use Rattle.tide_model.specs.Cycle.{HasDead}
use Rattle.tide_model.specs.History.{is_open, moment_after_last, state_after}
use Rattle.tide_model.specs.Layout.{Layout}
use Rattle.tide_model.specs.Since.{SweptWereTaken, WasTaken, is_sweep_of, is_taken_of, since}
use Rattle.tide_model.specs.State.{State}
use Rattle.tide_model.specs.declared.entry.Event.{Event}
use Rattle.tide_sweep.specs.Clearing.{IsCleared}
use Rattle.tide_sweep.specs.Zeroed.{IsDeadWord}
use Rattle.tide_sweep.specs.declared.port.Cleared.{Cleared}
use Rattle.tide_words.specs.heap.Heap.{Heap}
use Rattle.tide_words.specs.marking.Colours.{is_marking, running_cycle}

-- no block's sweep was taken for a later cycle than the last, nor for one that still marks
pub record SweptAreBelow (layout : Layout) (heap : Heap) : Type 0 where
  pub last : (block : ℕ) → block < block_count layout → heap region.Swept block ≤ running_cycle heap
  pub ended : is_marking heap ≡ true → (block : ℕ) → block < block_count layout →
      heap region.Swept block < running_cycle heap

-- the sweep of the block was taken since the last cycle ended
abbrev pub IsTaken : Heap → ℕ → Type 0
IsTaken heap block = (is_marking heap ≡ false) × (heap region.Swept block ≡ running_cycle heap)

-- once a cycle has ended, the words tell just of which blocks the sweep was taken since
abbrev pub SweptAreTold : Layout → Heap → List Event → Type 0
SweptAreTold layout heap log = is_marking heap ≡ false → 0 < running_cycle heap →
    (block : ℕ) → block < block_count layout → IsTaken heap block ↔ WasTaken log block

-- nothing is dead in a block whose sweep was taken
abbrev pub TakenAreClean : Layout → Heap → State → Type 0
TakenAreClean layout heap state =
    (block : ℕ) → block < block_count layout → IsTaken heap block → HasDead layout state block → ⊥

-- the view sweeps the block
pub record Sweeps (v : View) (block : ℕ) : Type 0 where
  pub sweeping : Sweeping
  pub is : v.sweeping ≡ Some sweeping
  pub of_block : sweeping.block ≡ block

-- Until it gives a block's bits, a sweep knows the word of the dead ones, and what it has zeroed is 0 and is of what is
-- dead there.
pub record SweepStands (layout : Layout) (heap : Heap) (s : Sweeping) : Type 0 where
  pub within : s.block < block_count layout
  pub dead : s.given ≡ false → heap region.Dead s.block ≡ s.dead
  pub zeroed : s.given ≡ false → (at : Region) (index word : ℕ) → Contains s.zeroed (owed_word at index word) →
      IsDeadWord layout s.block s.dead at index × (heap at index ≡ 0)

-- What a view saw of a block stands there until the block is taken: the word of its dead bits, and that of the cycle
-- that it was taken in last, where it found that.
pub record SawStands (layout : Layout) (heap : Heap) (saw : Saw) : Type 0 where
  pub within : saw.block < block_count layout
  pub dead : (heap region.Dead saw.block ≡ saw.word) ⊎ IsTaken heap saw.block
  pub swept : (word : ℕ) → saw.swept ≡ Some word → (heap region.Swept saw.block ≡ word) ⊎ IsTaken heap saw.block

-- Who sweeps a block is a mutator that hasn't retired; it has taken the block's sweep, after a cycle has ended, and
-- nobody else sweeps it. What is dead in a block whose sweep was taken is named by the view that took it, which hasn't
-- given its bits. What a sweep says stands in the words; and so does what was seen of a block until it is taken.
pub record SweepsAreNamed (layout : Layout) (heap : Heap) (part : ℕ → View) (state : State) : Type 0 where
  pub taken : (p block : ℕ) → Sweeps (part p) block → IsTaken heap block
  pub begun : (p block : ℕ) → Sweeps (part p) block → 0 < running_cycle heap
  pub active : (p block : ℕ) → Sweeps (part p) block → (p < layout.mutators) × ((part p).left ≡ false)
  pub owner : ℕ → ℕ
  pub once : (p block : ℕ) → Sweeps (part p) block → owner block ≡ p
  pub named : (block : ℕ) → block < block_count layout → IsTaken heap block → HasDead layout state block → (p : ℕ) ×
      IsSweeping (part p) block
  pub stands : (p : ℕ) (s : Sweeping) → (part p).sweeping ≡ Some s → SweepStands layout heap s
  pub saw : (p : ℕ) (saw : Saw) → (part p).saw ≡ Some saw → SawStands layout heap saw

-- each block that was taken in the part is swept there since, or one view has still to do so
abbrev pub TakenAreOwed : (ℕ → View) → List Event → Type 0
TakenAreOwed part log = (block : ℕ) →
    (moment_after_last (λ event. is_taken_of block event.entry) (since is_open log)
    ≤ moment_after_last (λ event. is_sweep_of block event.entry) (since is_open log))
    ⊎ ((p : ℕ) × IsSweeping (part p) block)

-- who sweeps a block took it in the part
abbrev pub SweepersTook : (ℕ → View) → List Event → Type 0
SweepersTook part log = (p block : ℕ) → Sweeps (part p) block →
    0 < moment_after_last (λ event. is_taken_of block event.entry) (since is_open log)

-- Each block that a view says to be cleared is so in the history: from that moment on what is dead there, if anything
-- is, was taken, and what the view's answer tells was so at that moment.
abbrev pub ClearedAreClean : Layout → (ℕ → View) → List Event → Type 0
ClearedAreClean layout part log = (p : ℕ) (one : Cleared) → Contains (part p).cleared one → IsCleared layout log one

-- all that the wave says of sweeps
pub record SweepsAreRight (layout : Layout) (heap : Heap) (part : ℕ → View) (log : List Event) : Type 0 where
  pub named : SweepsAreNamed layout heap part (state_after layout log)
  pub told : SweptAreTold layout heap log
  pub taken : TakenAreOwed part log
  pub took : SweepersTook part log
  pub swept : SweptWereTaken (since is_open log)
  pub cleared : ClearedAreClean layout part log
