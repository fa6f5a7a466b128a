-- What the loop of collecting::hand_out keeps.
use Rattle.std.proofs.Common.{ℕ, ◌≡◌, ◌<◌, ◌≤◌}
use Rattle.std.specs.Prelude.{Some, slice_get}
use Rattle.crossbeam_utils.specs.Padded.{padded_value}
use Rattle.crossbeam_utils.specs.declared.cache_padded.CachePadded.{CachePadded}
use Rattle.tide_threads.specs.Playing.{WasHanded}
use Rattle.tide_threads.specs.declared.participant.Participant.{Participant}
use Rattle.tide_threads.proofs.collecting.hand_out.Given as goal

abbrev pub invariant-loop-padded : goal.invariant-loop-padded
invariant-loop-padded l = record {
  table : l.collector.seat.table_id ≡ l.initial.collector.seat.table_id;
  view : l.collector.seat.me.0 ≡ l.initial.collector.seat.me.0;
  handed : (who : ℕ) (x y : CachePadded Participant) → who < l.padded-index → slice_get l.initial.participants who ≡ Some x →
      slice_get l.participants who ≡ Some y →
      WasHanded l.heap.table.shared.table_id l.initial.collector.seat.me.0 (padded_value x) (padded_value y);
  later : (who : ℕ) → l.padded-index ≤ who → slice_get l.participants who ≡ slice_get l.initial.participants who;
}
