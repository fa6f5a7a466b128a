-- What carrying out an action needs of the words, where its mutator stands.
use Rattle.std.proofs.Common.{◌<◌, List}
use Rattle.tide_mutator.proofs.owed_laws.Standing.{calls_there}
use Rattle.tide_mutator.specs.owed.Standing.{IsPlanned, MutatorStandsAt, caller_of}
use Rattle.tide_heap.specs.tide_call.declared.action.Action.{Action}
use Rattle.tide_heap.specs.tide_layout.Limits.{IsWithinLimits}
use Rattle.tide_heap.specs.tide_core.declared.machine.view.View.{View}
use Rattle.tide_model.proofs.ClaimLaws.{ClaimsAreOwn-lawful}
use Rattle.tide_model.specs.History.{state_after}
use Rattle.tide_model.specs.Lawful.{FitsLayout}
use Rattle.tide_model.specs.Layout.{Layout}
use Rattle.tide_model.specs.Refused.{ShapeLists}
use Rattle.tide_model.specs.declared.entry.Event.{Event}
use Rattle.tide_model.specs.declared.op.Op.{Op}
use Rattle.tide_heap.proofs.tide_call.action_laws.ActionsFit.{actions_fit}
use Rattle.tide_heap.specs.tide_call.Needed.{FitsAction}
use Rattle.tide_heap.specs.tide_words.heap.Heap.{Heap}

-- what acting needs it has where its mutator stands
pub fits_there : (layout : Layout) (shapes : ShapeLists) (v : View) (op : Op) (does : Action) (heap : Heap)
    (log : List Event) → IsWithinLimits layout → FitsLayout layout op → v.who < layout.mutators →
    MutatorStandsAt layout shapes v heap log → IsPlanned layout shapes v op does → FitsAction layout heap does
fits_there layout shapes v op does heap log limits fits below stands planned =
    actions_fit (caller_of layout shapes v) heap (state_after layout log) op does limits fits
    (calls_there layout shapes v heap log below stands) stands.active stands.refs
    (ClaimsAreOwn-lawful layout shapes log stands.lawful) stands.reads (planned heap log stands)
