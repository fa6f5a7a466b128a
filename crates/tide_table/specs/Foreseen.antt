-- What a freeze did, worked out from what is known before and after it.
use Rattle.std.specs.Prelude.{ℕ, ◌≡◌, ◌+◌, ◌&&◌, ◌||◌, Bool, true, not, List, [], sum, Option, None, Some, if◌then◌else◌}
use Rattle.tide_heap.specs.tide_core.declared.machine.view.View.{View}
use Rattle.tide_model.specs.Cycle.{begin_count}
use Rattle.tide_model.specs.Freeze.{begins_full, marks_after}
use Rattle.tide_model.specs.Layout.{Layout}
use Rattle.tide_model.specs.Pace.{Pace, is_triggered}
use Rattle.tide_model.specs.Since.{born_since, is_end}
use Rattle.tide_model.specs.declared.entry.Event.{Event}
use Rattle.tide_statistics.specs.declared.told.FreezeTold.{FreezeTold}
use Rattle.tide_statistics.specs.declared.told.PauseTold.{PauseTold}
use Rattle.tide_table.specs.VisitsTold.{visits_told}
use Rattle.tide_table.specs.declared.foreseeing.Foreseen.{Foreseen}

-- how the cycle that marked went on, if one did
abbrev pub on_of : Bool → PauseTold → Option PauseTold
on_of marked pause = if marked then Some pause else None

-- What a freeze did, from whether a cycle marked before it, the cycle that began in it, if one did, how many cells the
-- last two pauses made black, and whether a cycle marks behind it: where one began, the one before it ended.
abbrev pub told_of : Bool → Option Bool → ℕ × ℕ → Bool → FreezeTold
told_of marked None pauses marks =
    record { went_on = on_of marked (record { visits = pauses.1; ended = not marks }); begun = None }
told_of marked (Some full) pauses marks = record {
  went_on = on_of marked (record { visits = pauses.0; ended = true });
  begun = Some (record { full = full; pause = record { visits = pauses.1; ended = not marks } });
}

-- the cycle of this number that begins in a freeze, if one does, a full one or not: where the freeze is forced, or none
-- marks and so many cells were born as the trigger says
abbrev pub begun_of : Bool → Bool → Bool → ℕ → Option Bool
begun_of is_forced marked triggered number =
    if is_forced || (not marked && triggered) then Some (begins_full is_forced number) else None

-- the cycle that begins in the freeze behind a history
abbrev pub began_in : Pace → Layout → List Event → Bool → Option Bool
began_in pace layout here is_forced =
    begun_of is_forced (marks_after layout here) (is_triggered pace.trigger (born_since is_end here)) (begin_count here + 1)

-- how many cells each visitor's note told, if a cycle marks
abbrev pub visits_noted : Layout → View → List ℕ
visits_noted layout v = if marks_after layout v.seen then visits_told v.visited 0 layout.visitors else []

-- this is what is known of a freeze before it
pub record HasForeseen (pace : Pace) (layout : Layout) (v : View) (is_forced : Bool) (foreseen : Foreseen) : Type 0 where
  pub marked : foreseen.marked ≡ marks_after layout v.seen
  pub visited : foreseen.visited ≡ sum (visits_noted layout v)
  pub begun : foreseen.begun ≡ began_in pace layout v.seen is_forced
