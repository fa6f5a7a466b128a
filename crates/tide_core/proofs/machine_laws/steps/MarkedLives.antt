-- Each marked cell is live, whether a cycle marks or not.
use Rattle.std.proofs.Common.{ℕ, ◌≡◌, ◌<◌, true, List, inl, inr}
use Rattle.std.proofs.lemmas.Bool.{and_parts, cases_Bool}
use Rattle.std.specs.Prelude.{not}
use Rattle.tide_model.proofs.OldLaws.{old_stays_live}
use Rattle.tide_words.specs.marking.Colours.{IsMarked, is_marking}
use Rattle.tide_model.specs.Old.{IsSpared, is_full, is_old}
use Rattle.tide_core.specs.machine.RunningWave.{RunningWave}
use Rattle.tide_core.specs.machine.World.{World}
use Rattle.tide_core.specs.machine.points.Marks.{SpanIsLive}
use Rattle.tide_model.specs.Cycle.{cycle_span}
use Rattle.tide_model.specs.Graph.{IsRetained, retained_in_closed}
use Rattle.tide_model.specs.History.{state_after}
use Rattle.tide_model.specs.Lawful.{IsLawful}
use Rattle.tide_model.specs.Layout.{Layout, cell_count}
use Rattle.tide_model.specs.References.{IsLive}
use Rattle.tide_model.specs.Refused.{ShapeLists}
use Rattle.tide_model.specs.declared.entry.Event.{Event}
use Rattle.tide_words.specs.heap.Heap.{Heap}

-- what is retained while a cycle marks is live, with the cells that it spares
pub retained_is_live : (layout : Layout) (shapes : ShapeLists) (heap : Heap) (log : List Event) → IsLawful layout shapes log →
    SpanIsLive layout heap log → is_marking heap ≡ true → (cell : ℕ) →
    IsRetained (cycle_span layout log) (IsSpared layout log) cell → IsLive (state_after layout log) cell
retained_is_live layout shapes heap log lawful span marks =
    retained_in_closed (cycle_span layout log) (IsSpared layout log) (IsLive (state_after layout log)) record {
      roots = span.roots marks;
      further_cells = λ cell spared. old_stays_live layout shapes log lawful cell
          (and_parts (not (is_full log)) (is_old layout log cell) spared).1;
      links = λ source cell alive link. (span.links marks source cell link).1;
      pairs = λ table key cell one other triple. span.triples marks table key cell triple;
      group_mates = λ one other alive group_mate. (span.group_mates marks one other group_mate).1;
    }

pub marked_is_live : (layout : Layout) (shapes : ShapeLists) (w : World) → RunningWave layout shapes w →
    (cell : ℕ) → cell < cell_count layout → IsMarked w.heap cell → IsLive (state_after layout w.log) cell
marked_is_live layout shapes w wave cell within is = elim (cases_Bool (is_marking w.heap)) [
  | inl marks ↦ retained_is_live layout shapes w.heap w.log wave.lawful wave.span marks cell (wave.retained.marked marks cell within is)
  | inr idle ↦ old_stays_live layout shapes w.log wave.lawful cell (wave.old.rests idle cell within is)
]
