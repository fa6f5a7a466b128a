-- What the steps of the collector tell, as the plays of `atomic_table` have it: of the step, the seat before, the
-- number found, and the seat after.
use Rattle.std.specs.Prelude.{ℕ, ◌≡◌, slice_index}
use Rattle.atomic_table.specs.Table.{Me, Step}
use Rattle.tide_heap.specs.tide_core.declared.machine.view.View.{View}
use Rattle.tide_model.specs.Layout.{Layout}
use Rattle.tide_model.specs.Refused.{ShapeLists}
use Rattle.tide_model.specs.declared.entry.Event.{Event}
use Rattle.tide_heap.specs.Turns.{restored, entered_with, visits_over, opened, Freezes}

module _ {S : Type 0} where
  abbrev pub has_frozen : Layout → ShapeLists → Step S → Me S View → ℕ → Me S View → Type 0
  has_frozen layout shapes st a r b = Freezes layout shapes a.0 b.0

  abbrev pub has_read : Step S → Me S View → ℕ → Me S View → Type 0
  has_read st a r b = (b.0 ≡ a.0) × (r ≡ slice_index a.0.words st.word)

  abbrev pub has_stored : Step S → Me S View → ℕ → Me S View → Type 0
  has_stored st a r b = b.0 ≡ restored st.word st.first a.0

  abbrev pub has_entered : Event → Step S → Me S View → ℕ → Me S View → Type 0
  has_entered event st a r b = b.0 ≡ entered_with event a.0

  abbrev pub has_entered_visits : ℕ → Event → Step S → Me S View → ℕ → Me S View → Type 0
  has_entered_visits who event st a r b = b.0 ≡ visits_over who event a.0

  abbrev pub has_opened : Layout → ℕ → Step S → Me S View → ℕ → Me S View → Type 0
  has_opened layout run st a r b = b.0 ≡ opened layout run a.0
