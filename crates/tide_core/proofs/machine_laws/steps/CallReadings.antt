-- The words, with those of a call that may stand, read as the state after it.
use Rattle.std.proofs.Common.{ℕ, ◌≡◌, [], Some, Option}
use Rattle.std.specs.Prelude.{slice_get}
use Rattle.tide_call.proofs.reading_laws.CallReading.{calls_read_back}
use Rattle.tide_call.specs.CallWords.{CallWords}
use Rattle.tide_words.specs.tide_layout.Limits.{IsWithinLimits}
use Rattle.tide_core.specs.machine.Entries.{call_of}
use Rattle.tide_core.specs.machine.RunningWave.{RunningWave}
use Rattle.tide_core.specs.machine.World.{World}
use Rattle.tide_model.proofs.ClaimLaws.{ClaimsAreOwn-lawful}
use Rattle.tide_model.specs.Applied.{after_call}
use Rattle.tide_model.specs.History.{state_after}
use Rattle.tide_model.specs.Lawful.{Stands}
use Rattle.tide_model.specs.Layout.{Layout}
use Rattle.tide_model.specs.Refused.{ShapeLists}
use Rattle.tide_model.specs.declared.op.Op.{Op}
use Rattle.tide_model.specs.declared.op.Reply.{Reply}
use Rattle.tide_words.specs.heap.Heap.{Heap}
use Rattle.tide_words.specs.heap.Reading.{ReadsAs}

pub call_reads : (layout : Layout) (shapes : ShapeLists) → IsWithinLimits layout → slice_get shapes 0 ≡ Some [] →
    (w : World) (wave : RunningWave layout shapes w) (me : ℕ) (op : Op) (reply : Reply) (took : Option ℕ) (new : Heap) →
    Stands layout shapes w.log (call_of me op reply took) →
    CallWords layout shapes wave.words.settled (state_after layout w.log) me op reply took new →
    ReadsAs layout shapes new (after_call (state_after layout w.log) me op reply took)
call_reads layout shapes limits empty_shape w wave me op reply took new stands words =
    calls_read_back layout shapes wave.words.settled new (state_after layout w.log) me op reply took
    (record {
      limits = limits;
      empty_shape = empty_shape;
      is_mutator = stands.is_mutator;
      is_active = stands.is_active;
      fits = stands.fits;
      answers = stands.answers;
      claims = ClaimsAreOwn-lawful layout shapes w.log wave.lawful;
    }) wave.refs words wave.words.reads
