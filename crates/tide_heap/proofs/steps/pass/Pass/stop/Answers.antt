-- Why what is told of its round holds after the stop too, and what the note says of it.
use Rattle.std.proofs.Common.{◌≡◌, subst, sym, true, false}
use Rattle.std.specs.Prelude.{◌↔◌}
use Rattle.tide_heap.specs.Done.{HasDonePart, done_by_numbers}
use Rattle.tide_core.specs.machine.Progress.{HasWholeRound}
use Rattle.tide_core.specs.declared.machine.view.View.{View}
use Rattle.tide_heap.proofs.steps.pass.Pass.stop.Goals as goal

pub split-requires-clause-round : goal.split-requires-clause-round
split-requires-clause-round g c =
    let layout = c.args.heap.now.key.layout in
    subst (λ (u : View). done_by_numbers u ≡ false → ((c.args.whole ≡ true) ↔ HasWholeRound layout u))
    (sym c.store_stopped.ensures.stopped) c.requires.round

pub returns-clause-done : goal.returns-clause-done
returns-clause-done g c =
    let layout = c.args.heap.now.key.layout in
    subst (λ (u : View). (c.split.result.seat.me.0.done ≡ true) ↔ HasDonePart layout u)
    c.store_stopped.ensures.stopped c.split.ensures.done
