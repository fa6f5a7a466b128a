-- Where a mutator that decides may stand, by the words that it has read.
use Rattle.std.specs.Prelude.{ℕ, ◌≡◌, true, false, List, []}
use Rattle.tide_mutator.specs.owed.Standing.{MutatorStandsAt}
use Rattle.tide_heap.specs.tide_core.declared.machine.view.Growth.TheVariants.{Nothing}
use Rattle.tide_heap.specs.tide_core.declared.machine.view.View.{View}
use Rattle.tide_model.specs.Layout.{Layout}
use Rattle.tide_model.specs.Refused.{ShapeLists}
use Rattle.tide_model.specs.declared.entry.Event.{Event}
use Rattle.tide_heap.specs.tide_words.heap.Heap.{Heap}

-- the view but for the words that it knows and the one found last
abbrev pub unread : View → View
unread v = record v { known = []; found = 0 }

-- these words are a heap's in which the mutator with this view may stand while it runs and owes nothing
pub record OwnsAt (layout : Layout) (shapes : ShapeLists) (v : View) (given : Layout) (who : ℕ) (heap : Heap)
    : Type 0 where
  pub same_layout : given ≡ layout
  pub same_who : who ≡ v.who
  pub runs : v.runs ≡ true
  pub stays : v.left ≡ false
  pub calm : v.owed ≡ []
  pub grows_not : v.growth ≡ Nothing
  pub log : List Event
  pub stands : MutatorStandsAt layout shapes v heap log
