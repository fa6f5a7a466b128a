-- The machine while the heap is frozen: nobody runs, and the collector alone makes entries.
use Rattle.std.specs.Prelude.{ℕ, ◌≡◌, ◌+◌, ◌≤◌, ◌<◌, ◌%◌, ◌^◌, true, false, List, [], None}
use Rattle.tide_core.specs.wave.FrozenWave.{call_count, MarkedIsRetained, BornIsMarked, OldIsMarked, blackened_count}
use Rattle.tide_cycle.specs.GreyWords.{IsShared}
use Rattle.tide_core.specs.machine.World.{World}
use Rattle.tide_core.specs.declared.machine.view.Role.TheVariants.{Member}
use Rattle.tide_core.specs.declared.machine.view.View.{View}
use Rattle.tide_core.specs.machine.points.Marks.{SpanIsLive}
use Rattle.tide_core.specs.machine.points.Seen.{IsKnown, WhoLeftIsInactive, ParkedIsEmpty}
use Rattle.tide_core.specs.machine.points.Stops.{StopsAreTold}
use Rattle.tide_core.specs.machine.points.Sweeps.{SweptAreBelow, SweptAreTold, TakenAreClean}
use Rattle.tide_model.specs.Cycle.{begin_count}
use Rattle.tide_model.specs.History.{state_after, is_begin}
use Rattle.tide_model.specs.Lawful.{IsLawful}
use Rattle.tide_model.specs.Layout.{Layout, cell_count}
use Rattle.tide_model.specs.Periods.{open_count}
use Rattle.tide_model.specs.Refused.{ShapeLists}
use Rattle.tide_model.specs.Since.{visits_since}
use Rattle.tide_model.specs.declared.entry.Event.{Event}
use Rattle.tide_words.specs.heap.EmptyHeap.{empty_heap}
use Rattle.tide_words.specs.heap.Heap.{Heap}
use Rattle.tide_words.specs.marking.Colours.{is_marking, running_cycle}
use Rattle.tide_words.specs.marking.Marking.{Marking}
use Rattle.tide_words.specs.tide_layout.declared.region.Region.TheVariants as region
use Rattle.tide_core.specs.declared.machine.view.Duty.TheVariants as duty
use Rattle.tide_core.specs.declared.machine.view.Growth.TheVariants as growth

-- The wave at a freeze in which visits are told by notes alone so far: it is `FrozenWave` but that so many cells more
-- may be black than the entries say. What stood in the cycle is live, and the history is lawful. Nothing is dead in a
-- block whose sweep was taken.
pub record FrozenWith (layout : Layout) (shapes : ShapeLists) (heap : Heap) (history : List Event) (unentered : ℕ)
    : Type 0 where
  pub lawful : IsLawful layout shapes history
  pub span : SpanIsLive layout heap history
  pub marking : Marking layout shapes heap (state_after layout history) []
  pub cycle : running_cycle heap ≡ begin_count history
  pub period : heap region.Period 0 ≡ open_count history
  pub calls : (who : ℕ) → who < layout.mutators → heap region.Call who ≡ call_count who history % 2 ^ 64
  pub old : OldIsMarked layout heap history
  pub retained : is_marking heap ≡ true → MarkedIsRetained layout heap history
  pub born : is_marking heap ≡ true → BornIsMarked layout heap history
  pub counted : is_marking heap ≡ true → blackened_count layout heap history ≤ visits_since is_begin history + unentered
  pub swept : SweptAreBelow layout heap
  pub clean : TakenAreClean layout heap (state_after layout history)
  pub swept_told : SweptAreTold layout heap history

-- The machine is frozen: nobody runs, and the wave at a freeze holds but for visits that aren't entered yet. The words
-- tell in which part each has stopped.
pub record FrozenMachine (layout : Layout) (shapes : ShapeLists) (w : World) (unentered : ℕ) : Type 0 where
  pub wave : FrozenWith layout shapes w.heap w.log unentered
  pub known : IsKnown w.log w.part
  pub begun : (p : ℕ) → (w.part p).begun ≤ w.heap region.Period 0
  pub left : WhoLeftIsInactive w.part (state_after layout w.log)
  pub stopped : (p : ℕ) → (w.part p).runs ≡ false
  pub parked : ParkedIsEmpty w.part
  pub stops : StopsAreTold layout w.heap w.part

-- A part of so many calls may be opened: where a cycle marks and the layout has visitors, they run for some calls, and
-- a cell has its bit in a shared grey word for them.
abbrev pub MayOpen : Layout → Heap → ℕ → Type 0
MayOpen layout heap run =
    is_marking heap ≡ true → 0 < layout.visitors →
    (0 < run) × ((cell : ℕ) × (cell < cell_count layout) × IsShared heap cell)

-- a participant that knows nothing yet
abbrev pub newcomer : ℕ → View
newcomer p = record {
  role = Member;
  who = p;
  seen = [];
  mine = [];
  calls = 0;
  period = 0;
  stopped = 0;
  found = 0;
  ticket = 0;
  run = 0;
  marks = false;
  cycle = 0;
  mark_version = 0;
  earlier = [];
  told = [];
  runs = false;
  begun = 0;
  born = 0;
  visits = 0;
  races = 0;
  round = [];
  owed = [];
  known = [];
  duty = duty.Nothing;
  growth = growth.Nothing;
  held = [];
  scan = None;
  full = [];
  sweeping = None;
  saw = None;
  cleared = [];
  left = false;
  done = false;
  frozen = false;
  words = [];
  words_at_entry = [];
  stood = [];
  notes = [];
  gone = [];
  next = 0;
  visits_told = 0;
  births = 0;
  start = [];
  visited = [];
  noted_calls = [];
}

-- the world before anything happened
abbrev pub first_world : World
first_world = record { heap = empty_heap; part = newcomer; log = [] }
