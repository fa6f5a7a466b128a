-- What the loop of collecting::take_in keeps.
use Rattle.std.proofs.Common.{ℕ, ◌≡◌, ◌<◌, ◌≤◌, take}
use Rattle.std.specs.Prelude.{Some, slice_get}
use Rattle.crossbeam_utils.specs.Padded.{padded_value}
use Rattle.crossbeam_utils.specs.declared.cache_padded.CachePadded.{CachePadded}
use Rattle.tide_threads.specs.Acting.{noted_all, notes_in}
use Rattle.tide_threads.specs.Playing.{GaveNote}
use Rattle.tide_threads.specs.declared.participant.Participant.{Participant}
use Rattle.tide_threads.proofs.collecting.take_in.Given as goal

abbrev pub invariant-loop-padded : goal.invariant-loop-padded
invariant-loop-padded l = record {
  table : l.collector.seat.table_id ≡ l.initial.collector.seat.table_id;
  taken : l.collector.seat.me.0 ≡ noted_all (notes_in (take l.padded-index l.initial.participants)) l.initial.collector.seat.me.0;
  gave : (who : ℕ) (x y : CachePadded Participant) → who < l.padded-index → slice_get l.initial.participants who ≡ Some x →
      slice_get l.participants who ≡ Some y → GaveNote (padded_value x) (padded_value y);
  later : (who : ℕ) → l.padded-index ≤ who → slice_get l.participants who ≡ slice_get l.initial.participants who;
}
