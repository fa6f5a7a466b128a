-- What an opening asks of words that stood still, and that a freeze leaves it.
use Rattle.std.specs.Prelude.{ℕ, Bool, List}
use Rattle.tide_heap.specs.tide_core.wave.FrozenWave.{FrozenWave}
use Rattle.tide_heap.specs.tide_freeze.Freezing.{HasFrozen, SharesGreys}
use Rattle.tide_heap.specs.tide_freeze.Participants.{LeavesParticipants}
use Rattle.tide_heap.specs.tide_core.machine.Frozen.{FrozenWith, MayOpen}
use Rattle.tide_heap.specs.tide_core.machine.points.Sweeps.{SweptAreBelow, SweptAreTold, TakenAreClean}
use Rattle.tide_model.specs.History.{state_after}
use Rattle.tide_model.specs.Lawful.{IsLawful}
use Rattle.tide_model.specs.Layout.{Layout}
use Rattle.tide_model.specs.Pace.{Pace}
use Rattle.tide_model.specs.Periods.{next_run}
use Rattle.tide_model.specs.Refused.{ShapeLists}
use Rattle.tide_model.specs.declared.entry.Event.{Event}
use Rattle.tide_heap.specs.tide_words.heap.Heap.{heap_of}

-- The words that stand still after a history are such that a part of so many calls may be opened: they meet the wave of
-- the history, what is said of sweeps holds, and where a cycle marks there are calls and a shared grey cell for
-- visitors.
pub record MayFollow (layout : Layout) (shapes : ShapeLists) (words : List ℕ) (history : List Event) (run : ℕ)
    : Type 0 where
  pub wave : FrozenWave layout shapes (heap_of layout words) history
  pub swept : SweptAreBelow layout (heap_of layout words)
  pub told : SweptAreTold layout (heap_of layout words) history
  pub clean : TakenAreClean layout (heap_of layout words) (state_after layout history)
  pub may : MayOpen layout (heap_of layout words) run

-- A freeze over words that met the wave when all had stopped leaves such words, for as many calls as the schedule has
-- in the next part.
abbrev pub FreezesLeadToOpenings : Type 0
FreezesLeadToOpenings =
    (pace : Pace) (layout : Layout) (shapes : ShapeLists) (words words_now : List ℕ) (here after : List Event)
    (unentered : ℕ) (is_forced : Bool) → FrozenWith layout shapes (heap_of layout words) here unentered →
    FrozenWave layout shapes (heap_of layout words_now) after → IsLawful layout shapes after →
    HasFrozen pace layout here after is_forced →
    LeavesParticipants layout (heap_of layout words) (heap_of layout words_now) →
    SharesGreys layout words_now after → MayFollow layout shapes words_now after (next_run pace layout after)
