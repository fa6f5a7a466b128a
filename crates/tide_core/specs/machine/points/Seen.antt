-- Points on what each participant has seen of the history, and on the words that tell of parts, cycles and calls.
use Rattle.tide_words.specs.marking.Marked.{base_cycle}
use Rattle.std.specs.Prelude.{ℕ, ◌≡◌, ◌<◌, ◌≤◌, ◌%◌, ◌^◌, true, false, not, List, [], length, None, filter, Contains}
use Rattle.tide_core.specs.declared.machine.view.View.{View}
use Rattle.tide_model.specs.Cycle.{begin_count}
use Rattle.tide_model.specs.History.{is_call_of, is_open}
use Rattle.tide_model.specs.Layout.{Layout}
use Rattle.tide_model.specs.Periods.{open_count}
use Rattle.tide_model.specs.Prefix.{IsPrefix}
use Rattle.tide_model.specs.Since.{is_of_part, since}
use Rattle.tide_model.specs.State.{State}
use Rattle.tide_model.specs.declared.entry.Event.{Event}
use Rattle.tide_words.specs.heap.Heap.{Heap}
use Rattle.tide_words.specs.marking.Colours.{is_marking, running_cycle}
use Rattle.tide_words.specs.tide_layout.declared.region.Region.TheVariants as region
use Rattle.tide_core.specs.declared.machine.view.Duty.TheVariants as duty
use Rattle.tide_core.specs.declared.machine.view.Growth.TheVariants as growth

-- each participant has seen a beginning of the history, and its own entries are all that the history has of it
pub record IsKnown (log : List Event) (part : ℕ → View) : Type 0 where
  pub who : (p : ℕ) → (part p).who ≡ p
  pub seen : (p : ℕ) → IsPrefix (part p).seen log
  pub own : (p : ℕ) → filter (λ event. is_call_of p event.entry) log ≡ (part p).mine
  pub told : (p : ℕ) → filter (λ event. is_call_of p event.entry) (part p).seen ≡ (part p).mine

-- the words of the period and of the phase count parts and cycles; one that runs has them from its ticket, and the
-- cycle from which on colours count, and nobody began in a part that wasn't opened yet
pub record NumbersRead (heap : Heap) (part : ℕ → View) (log : List Event) : Type 0 where
  pub cycles : running_cycle heap ≡ begin_count log
  pub periods : heap region.Period 0 ≡ open_count log
  pub told : (p : ℕ) → (part p).runs ≡ true → ((part p).marks ≡ is_marking heap)
      × ((part p).cycle ≡ running_cycle heap) × ((part p).begun ≡ heap region.Period 0)
      × ((part p).mark_version ≡ base_cycle heap)
  pub begun : (p : ℕ) → (part p).begun ≤ heap region.Period 0

-- each mutator's call word tells as many calls as its view says, as far as a word can
abbrev pub CallsAreTold : Layout → Heap → (ℕ → View) → Type 0
CallsAreTold layout heap part = (p : ℕ) → p < layout.mutators → heap region.Call p ≡ (part p).calls % 2 ^ 64

-- since the last part was opened the history has nothing but calls, and blocks that are taken and swept
abbrev pub HasPartAlone : List Event → Type 0
HasPartAlone log = (event : Event) → Contains (since is_open log) event → is_of_part event.entry ≡ true

-- a participant has left exactly where its mutator is active no more
abbrev pub WhoLeftIsInactive : (ℕ → View) → State → Type 0
WhoLeftIsInactive part state = (p : ℕ) → (part p).left ≡ not (state.active p)

-- one that doesn't run holds, scans, sweeps and owes nothing, knows nothing, and its call word tells all of its calls
pub record ParkedIsEmpty (part : ℕ → View) : Type 0 where
  pub held : (p : ℕ) → (part p).runs ≡ false → (part p).held ≡ []
  pub scan : (p : ℕ) → (part p).runs ≡ false → (part p).scan ≡ None
  pub owed : (p : ℕ) → (part p).runs ≡ false → (part p).owed ≡ []
  pub duty : (p : ℕ) → (part p).runs ≡ false → (part p).duty ≡ duty.Nothing
  pub growth : (p : ℕ) → (part p).runs ≡ false → (part p).growth ≡ growth.Nothing
  pub known : (p : ℕ) → (part p).runs ≡ false → (part p).known ≡ []
  pub full : (p : ℕ) → (part p).runs ≡ false → (part p).full ≡ []
  pub sweeping : (p : ℕ) → (part p).runs ≡ false → (part p).sweeping ≡ None
  pub saw : (p : ℕ) → (part p).runs ≡ false → (part p).saw ≡ None
  pub cleared : (p : ℕ) → (part p).runs ≡ false → (part p).cleared ≡ []
  pub calls : (p : ℕ) → (part p).runs ≡ false → (part p).calls ≡ length (part p).mine
