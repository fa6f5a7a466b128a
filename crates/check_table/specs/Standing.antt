-- A heap that stands still: after its first part, in which nobody made a call, and before the next one is opened.
use Rattle.std.specs.Prelude.{ℕ, ◌≡◌, ◌≤◌, true, false, List, [], ◌∷◌, length}
use Rattle.tide_heap.specs.tide_layout.Region.{word_count}
use Rattle.tide_heap.specs.tide_layout.declared.region.Region.TheVariants.{Stopped}
use Rattle.tide_heap.specs.tide_core.machine.Frozen.{FrozenWith}
use Rattle.tide_heap.specs.tide_core.machine.May.{Rests}
use Rattle.tide_heap.specs.tide_core.declared.machine.view.View.{View}
use Rattle.tide_model.specs.History.{plain}
use Rattle.tide_model.specs.Layout.{Layout}
use Rattle.tide_model.specs.Refused.{ShapeLists}
use Rattle.tide_model.specs.declared.entry.Entry.TheVariants.{Open}
use Rattle.tide_model.specs.declared.entry.Event.{Event}
use Rattle.tide_table.specs.Openings.{MayFollow}
use Rattle.tide_heap.specs.tide_words.heap.Heap.{SameIn, heap_of}

-- the history of a part that was opened, and no more
abbrev pub opened_once : ℕ → List Event
opened_once run = plain (Open 1 run) ∷ []

-- the collector's view: nothing was entered since the freeze, and the words meet the wave of the history
pub record StandsStill (layout : Layout) (shapes : ShapeLists) (run : ℕ) (v : View) : Type 0 where
  pub frozen : v.frozen ≡ true
  pub seen : v.seen ≡ opened_once run
  pub words_at_entry : v.words_at_entry ≡ v.words
  pub stood : v.stood ≡ v.words
  pub long : length v.words ≡ word_count layout
  pub wave : FrozenWith layout shapes (heap_of layout v.words) (opened_once run) 0
