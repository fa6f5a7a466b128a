-- What the loop of playing::have_ended keeps.
use Rattle.std.proofs.Common.{ℕ, ◌≡◌, ◌<◌}
use Rattle.std.specs.Prelude.{Ok, Some, slice_get}
use Rattle.crossbeam_utils.specs.Padded.{padded_value}
use Rattle.crossbeam_utils.specs.declared.cache_padded.CachePadded.{CachePadded}
use Rattle.tide_model.specs.Numbers.{any_below}
use Rattle.tide_threads.specs.Playing.{stopped_in}
use Rattle.tide_threads.specs.declared.participant.Participant.{Participant}
use Rattle.tide_threads.proofs.playing.have_ended.Given as goal

abbrev pub invariant-loop-padded : goal.invariant-loop-padded
invariant-loop-padded l = record {
  served : (who : ℕ) (x : CachePadded Participant) → who < l.padded-index → slice_get l.participants who ≡ Some x →
      (padded_value x).outcome ≡ Ok (stopped_in l.participants who);
  ended : l.ended ≡ any_below (stopped_in l.participants) l.padded-index;
}
