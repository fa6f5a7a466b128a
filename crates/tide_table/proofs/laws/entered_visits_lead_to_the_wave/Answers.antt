use Rattle.std.specs.Prelude.{◌+◌, ◌∷◌, ◌++◌, []}
use Rattle.tide_heap.proofs.tide_core.machine_laws.freezes.Entering.{FrozenWave-of, FrozenWith-entered}
use Rattle.tide_heap.specs.tide_core.machine.Schedule.{visits}
use Rattle.tide_model.specs.History.{plain}
use Rattle.tide_model.specs.declared.entry.Entry.TheVariants.{Visits}
use Rattle.tide_table.proofs.laws.entered_visits_lead_to_the_wave.Goals as goal

pub returns : goal.returns
returns c = record {
  counts = λ layout shapes heap history who count left f.
      FrozenWith-entered layout shapes heap heap history (history ++ plain (Visits who count) ∷ []) (count + left) left f
      (visits who count left);
  wave = FrozenWave-of;
}
