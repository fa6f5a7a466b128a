-- Where the machine may come, whoever steps when.
use Rattle.std.specs.Prelude.{ℕ, ◌≡◌, ◌+◌, ◌<◌, ◌++◌, ◌∷◌, true, false, Bool, List, []}
use Rattle.tide_core.specs.wave.Entered.{CycleHasBegun, HasPaused, HasEnded, HasSwept, with_begin, with_end, with_open}
use Rattle.tide_cycle.specs.Converged.{HasConverged}
use Rattle.tide_words.specs.tide_layout.declared.region.Region.TheVariants as region
use Rattle.tide_core.specs.machine.Frozen.{FrozenMachine, MayOpen, first_world}
use Rattle.tide_core.specs.machine.Kind.{Kind}
use Rattle.tide_core.specs.machine.Machine.{IsAllowed, stepped}
use Rattle.tide_core.specs.machine.RunningWave.{RunningWave}
use Rattle.tide_core.specs.machine.World.{World, parties, total}
use Rattle.tide_core.specs.machine.points.Marks.{counted_in}
use Rattle.tide_model.specs.Cycle.{HasDead, IsSwept}
use Rattle.tide_model.specs.History.{plain, state_after}
use Rattle.tide_model.specs.Layout.{Layout}
use Rattle.tide_model.specs.Periods.{open_count}
use Rattle.tide_model.specs.Refused.{ShapeLists}
use Rattle.tide_model.specs.declared.entry.Entry.TheVariants.{Pause, Visits, Sweep}
use Rattle.tide_model.specs.declared.entry.Event.{Event}
use Rattle.tide_words.specs.heap.Heap.{Heap, write}
use Rattle.tide_words.specs.marking.Colours.{is_marking}

-- a part runs, or the heap is frozen, and so many visits are told by notes and not entered yet
pub data Mode : Type 0 where
  running : Mode
  frozen : ℕ → Mode

-- What the collector may do with a frozen heap: it enters the visits of a note, begins a cycle, a full one or not,
-- pauses while one marks, ends it, and sweeps. What becomes of the words are the clauses of the calls that do it.
pub data Enters (layout : Layout) (shapes : ShapeLists) (old : Heap) (history : List Event) : ℕ → Heap → List Event →
    ℕ → Type 0 where
  visits : (who visits left : ℕ) →
      Enters layout shapes old history (visits + left) old (history ++ plain (Visits who visits) ∷ []) left
  begins : (full : Bool) (new : Heap) → is_marking old ≡ false → IsSwept layout history → CycleHasBegun layout full old new →
      Enters layout shapes old history 0 new (with_begin history full) 0
  pauses : (new : Heap) (visits : ℕ) → is_marking old ≡ true → HasPaused layout old new visits →
      Enters layout shapes old history 0 new (history ++ plain (Pause visits) ∷ []) 0
  ends : (new : Heap) → is_marking old ≡ true → HasConverged layout old (state_after layout history) →
      HasEnded layout old new → Enters layout shapes old history 0 new (with_end layout old history) 0
  sweeps : (new : Heap) (block : ℕ) → HasDead layout (state_after layout history) block →
      HasSwept layout old new block →
      Enters layout shapes old history 0 new (history ++ plain (Sweep block) ∷ []) 0

-- The machine may come to this world by some schedule of steps whose kinds pass a test, of freezes, of entries and of
-- parts that are opened.
pub data Comes (layout : Layout) (shapes : ShapeLists) (test : Kind → Bool) : Mode → World → Type 0 where
  at_first : Comes layout shapes test (frozen 0) first_world
  steps : (w : World) (me : ℕ) (kind : Kind) → Comes layout shapes test running w → me < parties → test kind ≡ true →
      IsAllowed layout shapes w me kind → Comes layout shapes test running (stepped layout shapes w me kind)
  freezes : (w : World) → Comes layout shapes test running w → ((p : ℕ) → (w.part p).runs ≡ false) →
      Comes layout shapes test (frozen (total (counted_in (w.heap region.Period 0)) w.part)) w
  enters : (w : World) (before after : ℕ) (heap : Heap) (log : List Event) →
      Comes layout shapes test (frozen before) w →
      Enters layout shapes w.heap w.log before heap log after →
      Comes layout shapes test (frozen after) (record w { heap = heap; log = log })
  opens : (w : World) (run : ℕ) → Comes layout shapes test (frozen 0) w → MayOpen layout w.heap run →
      Comes layout shapes test running
      (record w { heap = write w.heap region.Period 0 (open_count w.log + 1); log = with_open w.log run })

-- the wave of a mode
abbrev pub WaveIn : Layout → ShapeLists → Mode → World → Type 0
WaveIn layout shapes running w = RunningWave layout shapes w
WaveIn layout shapes (frozen unentered) w = FrozenMachine layout shapes w unentered
