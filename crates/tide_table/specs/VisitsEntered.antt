-- What entries of visits leave of the wave at a freeze.
use Rattle.std.specs.Prelude.{ℕ, ◌+◌, List, [], ◌∷◌, ◌++◌}
use Rattle.tide_heap.specs.tide_core.wave.FrozenWave.{FrozenWave}
use Rattle.tide_heap.specs.tide_core.machine.Frozen.{FrozenWith}
use Rattle.tide_model.specs.History.{plain}
use Rattle.tide_model.specs.Layout.{Layout}
use Rattle.tide_model.specs.Refused.{ShapeLists}
use Rattle.tide_model.specs.declared.entry.Entry.TheVariants.{Visits}
use Rattle.tide_model.specs.declared.entry.Event.{Event}
use Rattle.tide_heap.specs.tide_words.heap.Heap.{Heap}

-- where a visitor's visits are entered, so many fewer are left to enter
abbrev pub EntriesCountVisits : Type 0
EntriesCountVisits =
    (layout : Layout) (shapes : ShapeLists) (heap : Heap) (history : List Event) (who visits left : ℕ) →
    FrozenWith layout shapes heap history (visits + left) →
    FrozenWith layout shapes heap (history ++ plain (Visits who visits) ∷ []) left

-- once none is left the words meet the wave of the history
abbrev pub AllEnteredIsWave : Type 0
AllEnteredIsWave =
    (layout : Layout) (shapes : ShapeLists) (heap : Heap) (history : List Event) →
    FrozenWith layout shapes heap history 0 → FrozenWave layout shapes heap history
