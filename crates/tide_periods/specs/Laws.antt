-- How the shares of mutators that called at the same time make a part.
use Rattle.std.specs.Prelude.{ℕ, ◌+◌, Bool, List, [], ◌∷◌, ◌++◌}
use Rattle.std.specs.List.{AllPass}
use Rattle.tide_model.specs.declared.entry.Entry.TheVariants.{Open}
use Rattle.tide_model.specs.declared.entry.Event.{Event}
use Rattle.tide_model.specs.History.{plain}
use Rattle.tide_model.specs.Lawful.{IsLawful}
use Rattle.tide_model.specs.Numbers.{any_below}
use Rattle.tide_model.specs.Periods.{open_count}
use Rattle.tide_model.specs.Since.{SweptWereTaken, TakenAreSwept, is_of_part}
use Rattle.tide_periods.specs.declared.cursor.ScriptCursor.{ScriptCursor}
use Rattle.tide_periods.specs.Own.{AllTookPart}
use Rattle.tide_periods.specs.Part.{AreCursors, RanPartBy}
use Rattle.tide_periods.specs.Recorded.{IsSettled, recorded_at}
use Rattle.tide_periods.specs.Store.{Setting}

-- the history once its next part was opened, in which each mutator has so many calls
abbrev pub with_open : List Event → ℕ → List Event
with_open history run = history ++ plain (Open (open_count history + 1) run) ∷ []

-- A history was settled, and its next part was opened. Where what follows is of a part, each block that was taken in it
-- was swept, and no other, the whole is lawful, and each cursor's mutator took part, the part was run by these cursors.
abbrev pub SharesMakePart : Type 0
SharesMakePart = (setting : Setting) (run : ℕ) (history part : List Event) (old new : List ScriptCursor)
    (stopped : ℕ → Bool) → IsSettled (recorded_at setting history) → AreCursors (recorded_at setting history) old →
    IsLawful setting.layout setting.shapes (with_open history run ++ part) →
    AllPass (λ event. is_of_part event.entry) part → TakenAreSwept part → SweptWereTaken part →
    AllTookPart setting run history (with_open history run ++ part) old new stopped →
    RanPartBy (recorded_at setting history) (recorded_at setting (with_open history run ++ part)) run old new
    (any_below stopped setting.layout.mutators)
