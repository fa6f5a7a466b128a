-- What a step tells of the machine at its moment.
use Rattle.tide_words.specs.marking.Marked.{base_cycle}
use Rattle.std.specs.Prelude.{ℕ, ◌≡◌, ◌+◌, ◌<◌, ◌≤◌, ◌%◌, ◌^◌, true, false, not, List, [], length, filter, Contains, ◌⊎◌, None, Some, if◌then◌else◌}
use Rattle.tide_words.specs.tide_layout.Region.{block_count}
use Rattle.tide_words.specs.tide_layout.declared.region.Region.{Region}
use Rattle.tide_words.specs.tide_layout.declared.region.Region.TheVariants as region
use Rattle.tide_core.specs.machine.DeadWords.{IsOfDead}
use Rattle.tide_core.specs.machine.Kind.{index_of_stopped}
use Rattle.tide_core.specs.machine.Looked.{FreeIsShown}
use Rattle.tide_core.specs.machine.Owed.{Owes, Knows, IsOwnWord}
use Rattle.tide_core.specs.machine.RunningWave.{RunningWave}
use Rattle.tide_core.specs.machine.World.{World, IsParty, holds, parties}
use Rattle.tide_core.specs.declared.machine.view.Scan.{Scan}
use Rattle.tide_core.specs.declared.machine.view.Saw.{Saw}
use Rattle.tide_core.specs.declared.machine.view.Sweeping.{Sweeping}
use Rattle.tide_core.specs.declared.machine.view.Target.{Target}
use Rattle.tide_core.specs.declared.machine.view.View.{View}
use Rattle.tide_core.specs.machine.points.Arrays.{ArraysStand}
use Rattle.tide_core.specs.machine.points.Scans.{IsAtHand, ScanKnows}
use Rattle.tide_core.specs.machine.points.Seen.{HasPartAlone}
use Rattle.tide_core.specs.machine.points.Sweeps.{IsTaken, SweptAreTold}
use Rattle.tide_model.specs.Cycle.{HasDead, IsSwept}
use Rattle.tide_model.specs.History.{state_after, state_at, is_call_of, is_open}
use Rattle.tide_model.specs.Lawful.{IsLawful}
use Rattle.tide_model.specs.Layout.{Layout, cell_count}
use Rattle.tide_model.specs.Prefix.{IsPrefix}
use Rattle.tide_model.specs.References.{IsLive, RefsAreLive}
use Rattle.tide_model.specs.Refused.{ShapeLists}
use Rattle.tide_model.specs.Room.{IsAlone, window_start}
use Rattle.tide_model.specs.Since.{TakenAreSwept, since}
use Rattle.tide_model.specs.State.{State}
use Rattle.tide_model.specs.declared.entry.Event.{Event}
use Rattle.tide_sweep.specs.Clearing.{IsCleared}
use Rattle.tide_sweep.specs.declared.port.Cleared.{Cleared}
use Rattle.tide_words.proofs.heap_laws.Frames.{is_read}
use Rattle.tide_words.specs.heap.Heap.{Heap}
use Rattle.tide_words.specs.heap.Reading.{ReadsAs}
use Rattle.tide_words.specs.marking.Colours.{is_marking, is_grey, running_cycle, IsMarked}
use Rattle.tide_words.specs.marking.Marking.{bits_of}

-- What these words, as they stood, say of a view, and of the cells and arrays that it works with. The view has the
-- phase, the base and the part from its ticket, its call word tells its calls, and its Stopped word its last stop. What
-- it holds, scans or has read is live; a grey cell has one holder, and where no cycle marks the view has none at hand.
-- Its scan's readings are right; and arrays say what the words of their cells tell.
pub record WorksOn (layout : Layout) (v : View) (words : Heap) (state : State) : Type 0 where
  pub phase : v.runs ≡ true → (v.marks ≡ is_marking words) × (v.cycle ≡ running_cycle words) × (v.mark_version ≡ base_cycle words)
  pub part : v.runs ≡ true → words region.Period 0 ≡ v.begun
  pub calls : v.who < layout.mutators → words region.Call v.who ≡ v.calls % 2 ^ 64
  pub stop : IsParty layout v.who → words region.Stopped (index_of_stopped layout v.who) ≡ v.stopped
  pub hands : (cell : ℕ) → IsAtHand v cell → IsLive state cell
  pub greys : v.who < parties → (cell : ℕ) → cell < cell_count layout →
      bits_of words cell + holds cell v ≤ (if is_grey words cell then 1 else 0)
  pub idle : is_marking words ≡ false → (v.held ≡ []) × (v.scan ≡ None)
  pub scan : (scan : Scan) → v.scan ≡ Some scan → ScanKnows layout words state scan
  pub target : (scan : Scan) (target : Target) → v.scan ≡ Some scan → scan.target ≡ Some target →
      (target.cell < cell_count layout) × ((words region.Colour target.cell ≡ target.word) ⊎ IsMarked words target.cell)
  pub arrays : ArraysStand layout words state

-- A step of this view found this word after this history. The words, with all owed ones stored, read as the state after
-- it; what the view knows stands there, and so does the word that was found, where no other may owe it. The view has
-- seen a beginning of the history, with all of its own calls, and in the blocks where it looked nothing was free but
-- what it saw. It has left where its mutator is active no more, and each colour of its cycle has a word. Since the part
-- was opened the history has nothing but calls, and blocks that are taken and swept. The words as they stood, the one
-- that was found among them, say of what the view holds and scans what the wave says.
pub record Moment (layout : Layout) (shapes : ShapeLists) (v : View) (log : List Event) (at : Region) (index read : ℕ)
    : Type 0 where
  pub before : IsPrefix v.seen log
  pub lawful : IsLawful layout shapes log
  pub part_alone : HasPartAlone log
  pub own : filter (λ event. is_call_of v.who event.entry) log ≡ v.mine
  pub left : v.left ≡ not ((state_after layout log).active v.who)
  pub few : v.runs ≡ true → v.cycle < 2 ^ 62
  pub refs : RefsAreLive (state_after layout log)
  pub settled : Heap
  pub reads : ReadsAs layout shapes settled (state_after layout log)
  pub known : (r : Region) (i word : ℕ) → Knows v r i word → settled r i ≡ word
  pub found : is_read at ≡ true → (IsOfDead layout (state_after layout log) at index → ⊥) →
      ((p word : ℕ) → IsOwnWord layout (state_after layout log) p at index → Owes v at index word → ⊥) →
      ((p : ℕ) → IsOwnWord layout (state_after layout log) p at index → p ≡ v.who) → settled at index ≡ read
  pub words : Heap
  pub is_word : words at index ≡ read
  pub works : WorksOn layout v words (state_after layout log)
  pub full : (block moment word : ℕ) →
      Contains v.full (record { block = block; moment = moment; word = word }) →
      (window_start v.who log ≤ moment) × (moment ≤ length log)
      × FreeIsShown layout (state_at layout log moment) block word
  -- of sweeps: what is dead where a cycle marks, the blocks that are cleared, the one whose dead bits it saw, its own
  -- sweep, a word of dead bits that is found, cycles that blocks were taken in, and the sweeps of others
  pub clean : v.runs ≡ true → v.marks ≡ true → IsSwept layout log
  pub cleared : (one : Cleared) → Contains v.cleared one → IsCleared layout log one
  pub saw : (saw : Saw) → v.saw ≡ Some saw → (saw.block < block_count layout) ×
      ((settled region.Dead saw.block ≡ saw.word) ⊎ IsTaken words saw.block)
  pub swept : (saw : Saw) (word : ℕ) → v.saw ≡ Some saw → saw.swept ≡ Some word →
      (words region.Swept saw.block ≡ word) ⊎ IsTaken words saw.block
  pub told : SweptAreTold layout words log
  pub sweeping : (s : Sweeping) → v.sweeping ≡ Some s → s.given ≡ false → settled region.Dead s.block ≡ s.dead
  pub none_dead : at ≡ region.Dead → read ≡ 0 → HasDead layout (state_after layout log) index → ⊥
  pub begun : at ≡ region.Dead → index < block_count layout → 0 < read → read < 2 ^ 64 → 0 < running_cycle words
  pub below : (block : ℕ) → block < block_count layout → words region.Swept block ≤ running_cycle words
  pub alone : v.sweeping ≡ None → IsAlone layout (state_after layout log) v.who → TakenAreSwept (since is_open log)

-- in a running part that is so of each participant and each word
abbrev pub StepsAreTold : Type 0
StepsAreTold =
    (layout : Layout) (shapes : ShapeLists) (w : World) (me : ℕ) (at : Region) (index : ℕ) →
    RunningWave layout shapes w → Moment layout shapes (w.part me) w.log at index (w.heap at index)
