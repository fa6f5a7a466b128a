-- The sweep of a block in a part in which no cycle marks: a mutator loads the word of the block's dead bits, claims the
-- block, zeroes the words of what is dead there, gives the bits back and finishes.
use Rattle.std.specs.Prelude.{ℕ, ◌≡◌, ◌<◌, ◌+◌, ◌∷◌, [], true, false, ◌==◌, if◌then◌else◌, List, length, Contains, Option, None, Some}
use Rattle.tide_words.specs.tide_layout.Region.{block_count}
use Rattle.tide_words.specs.tide_layout.declared.region.Region.{Region}
use Rattle.tide_core.specs.machine.May.{RunsAsMutator, IsBetweenCalls}
use Rattle.tide_core.specs.machine.Owed.{owed_word}
use Rattle.tide_core.specs.machine.World.{World}
use Rattle.tide_core.specs.declared.machine.view.Saw.{Saw}
use Rattle.tide_core.specs.declared.machine.view.Sweeping.{Sweeping}
use Rattle.tide_core.specs.declared.machine.view.View.{View}
use Rattle.tide_model.specs.History.{plain}
use Rattle.tide_model.specs.Lawful.{Stands}
use Rattle.tide_model.specs.Layout.{Layout}
use Rattle.tide_model.specs.Refused.{ShapeLists}
use Rattle.tide_model.specs.declared.entry.Entry.TheVariants.{Sweep, Taken}
use Rattle.tide_model.specs.declared.entry.Event.{Event}
use Rattle.tide_sweep.specs.Zeroed.{IsDeadWord}
use Rattle.tide_sweep.specs.declared.port.Took.{Took}
use Rattle.tide_sweep.specs.declared.port.Took.TheVariants.{Clean, Mine, Other}

-- what becomes of a sweep
abbrev pub in_sweep : Option Sweeping → (Sweeping → Sweeping) → Option Sweeping
in_sweep None change = None
in_sweep (Some sweeping) change = Some (change sweeping)

-- the block has nothing left to be taken from this moment on, by what was found
abbrev pub cleared_from : Took → ℕ → ℕ → View → View
cleared_from took moment block v =
    record v { cleared = record { block = block; moment = moment; took = took } ∷ v.cleared }

-- the word of the dead bits is kept, or nothing is dead
abbrev pub dead_view : List Event → ℕ → ℕ → View → View
dead_view log block read v =
    if read == 0 then cleared_from Clean (length log) block v
    else record v { saw = Some (record { block = block; word = read; swept = None }) }

-- the dead bits that were seen last
abbrev pub saw_word : Option Saw → ℕ
saw_word None = 0
saw_word (Some saw) = saw.word

-- what was seen of the block, with the word that its claim found
abbrev pub with_swept : ℕ → Option Saw → Option Saw
with_swept read None = None
with_swept read (Some saw) = Some (record saw { swept = Some read })

-- The block is claimed, if its word was the one expected. If it was that of the last cycle, another had claimed it; and
-- any other is kept.
abbrev pub claimed_view : List Event → ℕ → ℕ → ℕ → ℕ → View → View
claimed_view log block old cycle read v =
    if read == old then record (cleared_from Mine (length log + 1) block v) {
      sweeping = Some (record { block = block; dead = saw_word v.saw; given = false; zeroed = [] });
    }
    else if read == cycle then cleared_from Other (length log) block v
    else record v { saw = with_swept read v.saw }

-- one more of their words is 0
abbrev pub zeroed_view : Region → ℕ → View → View
zeroed_view at index v =
    record v { sweeping = in_sweep v.sweeping (λ s. record s { zeroed = owed_word at index 0 ∷ s.zeroed }) }

-- their bits are given back
abbrev pub given_view : View → View
given_view v = record v { sweeping = in_sweep v.sweeping (λ s. record s { given = true }) }

-- the sweep is over
abbrev pub finished_view : View → View
finished_view v = record v { sweeping = None }

-- the word of a block's dead bits is loaded, while no cycle marks
pub record MayLoadDead (layout : Layout) (w : World) (me block : ℕ) : Type 0 where
  pub runner : RunsAsMutator layout w me
  pub rests : (w.part me).marks ≡ false
  pub within : block < block_count layout

-- A mutator that hasn't retired claims, between two calls and while no cycle marks, a block in which it saw something
-- dead: it exchanges a lower word for the last cycle's number. Where that takes place the history has the block taken.
pub record MayClaimBlock (layout : Layout) (shapes : ShapeLists) (w : World) (me block old cycle read : ℕ)
    : Type 0 where
  pub runner : RunsAsMutator layout w me
  pub rests : (w.part me).marks ≡ false
  pub stays : (w.part me).left ≡ false
  pub between : IsBetweenCalls (w.part me)
  pub within : block < block_count layout
  pub of_last : cycle ≡ (w.part me).cycle
  pub lower : old < cycle
  pub saw : Saw
  pub is_saw : (w.part me).saw ≡ Some saw
  pub of_block : saw.block ≡ block
  pub stands : read ≡ old → Stands layout shapes w.log (plain (Taken block))

-- the mutator sweeps the block, and hasn't given its bits
pub record IsSweeping (v : View) (block : ℕ) : Type 0 where
  pub sweeping : Sweeping
  pub is : v.sweeping ≡ Some sweeping
  pub of_block : sweeping.block ≡ block
  pub ungiven : sweeping.given ≡ false

-- the mutator zeroes a word of what is dead in the block that it sweeps
pub record MayZeroWord (layout : Layout) (w : World) (me : ℕ) (at : Region) (index : ℕ) : Type 0 where
  pub runner : RunsAsMutator layout w me
  pub block : ℕ
  pub sweeps : IsSweeping (w.part me) block
  pub word : IsDeadWord layout block sweeps.sweeping.dead at index

-- the mutator gives the bits of all that was dead in the block that it sweeps, once none of their words is left to be
-- zeroed: the block is swept
pub record MayGiveBits (layout : Layout) (shapes : ShapeLists) (w : World) (me block bits : ℕ) : Type 0 where
  pub runner : RunsAsMutator layout w me
  pub sweeps : IsSweeping (w.part me) block
  pub are_dead : bits ≡ sweeps.sweeping.dead
  pub all : (at : Region) (index : ℕ) → IsDeadWord layout block bits at index →
      Contains sweeps.sweeping.zeroed (owed_word at index 0)
  pub stands : Stands layout shapes w.log (plain (Sweep block))

-- the mutator makes the word of the dead bits 0, once they are given
pub record MayFinish (layout : Layout) (w : World) (me block : ℕ) : Type 0 where
  pub runner : RunsAsMutator layout w me
  pub sweeping : Sweeping
  pub is : (w.part me).sweeping ≡ Some sweeping
  pub of_block : sweeping.block ≡ block
  pub given : sweeping.given ≡ true
