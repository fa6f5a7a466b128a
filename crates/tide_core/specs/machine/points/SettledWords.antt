-- Points on what the words say of the store while calls still owe some of them.
use Rattle.std.specs.Prelude.{ℕ, ◌≡◌, ◌≤◌, true, List, length, Contains, Some}
use Rattle.tide_words.specs.tide_layout.declared.region.Region.{Region}
use Rattle.tide_words.specs.tide_layout.declared.region.Region.TheVariants as region
use Rattle.tide_core.specs.machine.Looked.{FreeIsShown}
use Rattle.tide_core.specs.machine.Owed.{Owes, Knows, IsOwnWord, Unsettles, owed_word}
use Rattle.tide_core.specs.declared.machine.view.Sweeping.{Sweeping}
use Rattle.tide_core.specs.declared.machine.view.View.{View}
use Rattle.tide_model.specs.History.{state_after, state_at}
use Rattle.tide_model.specs.Layout.{Layout}
use Rattle.tide_model.specs.Refused.{ShapeLists}
use Rattle.tide_model.specs.Room.{window_start}
use Rattle.tide_model.specs.State.{State}
use Rattle.tide_model.specs.declared.entry.Event.{Event}
use Rattle.tide_words.proofs.heap_laws.Frames.{is_read}
use Rattle.tide_words.specs.heap.Heap.{Heap}
use Rattle.tide_words.specs.heap.Reading.{ReadsAs}

-- The words, with those stored that calls in flight still owe and those as they were that sweeps have zeroed, read as
-- the state. Each owed word is one that its participant alone may store, so that none is owed by two. Once a block's
-- bits are given, nothing is dead there, whatever its word still says.
pub record RunningWordsRead (layout : Layout) (shapes : ShapeLists) (heap : Heap) (part : ℕ → View) (state : State)
    : Type 0 where
  pub settled : Heap
  pub reads : ReadsAs layout shapes settled state
  pub same : (at : Region) (index : ℕ) → is_read at ≡ true → ((p word : ℕ) → Owes (part p) at index word → ⊥) →
      ((p word : ℕ) → Unsettles (part p) at index word → ⊥) → heap at index ≡ settled at index
  pub owed : (p : ℕ) (at : Region) (index word : ℕ) → Owes (part p) at index word → settled at index ≡ word
  pub owns : (p : ℕ) (at : Region) (index word : ℕ) → Owes (part p) at index word → IsOwnWord layout state p at index
  pub known : (p : ℕ) (at : Region) (index word : ℕ) → Knows (part p) at index word → settled at index ≡ word
  pub given : (p : ℕ) (s : Sweeping) → (part p).sweeping ≡ Some s → s.given ≡ true → settled region.Dead s.block ≡ 0

-- What a mutator knows of words stands there: they are read ones that it alone may store. And of each block
-- in which it looked nothing was free at that moment but what the word showed; the moment lies in the window of its
-- call.
pub record OwnIsKept (layout : Layout) (heap : Heap) (part : ℕ → View) (log : List Event) : Type 0 where
  pub reads : (p : ℕ) (at : Region) (index word : ℕ) → Contains (part p).known (owed_word at index word) →
      is_read at ≡ true
  pub owns : (p : ℕ) (at : Region) (index word : ℕ) → Contains (part p).known (owed_word at index word) →
      IsOwnWord layout (state_after layout log) p at index
  pub known : (p : ℕ) (at : Region) (index word : ℕ) → Contains (part p).known (owed_word at index word) →
      heap at index ≡ word
  pub full : (p block moment word : ℕ) →
      Contains (part p).full (record { block = block; moment = moment; word = word }) →
      (window_start p log ≤ moment) × (moment ≤ length log)
      × FreeIsShown layout (state_at layout log moment) block word
