-- Why each participant was handed its ticket.
use Rattle.std.proofs.Common.{◌<◌, ◌∙◌, arith, length, get_or, subst}
use Rattle.std.proofs.lemmas.Option.{slice_get_within}
use Rattle.crossbeam_utils.specs.Padded.{padded_value}
use Rattle.tide_heap.specs.tide_core.declared.machine.view.View.{View}
use Rattle.tide_threads.proofs.Loops.{both_step, later_step}
use Rattle.tide_threads.specs.Playing.{WasHanded}
use Rattle.tide_threads.proofs.collecting.hand_out.Goals as goal

pub loop-padded-preserved : goal.loop-padded-preserved
loop-padded-preserved c =
    let at = c.loop-padded.padded-index in
    let ps = c.loop-padded.participants in
    let below : at < length ps = omega (arith, c.loop-padded-test.true, c.loop-padded.auto.participants) in
    let so = c.loop-padded.invariant in
    let olds = c.args.participants.now in
    let id = c.args.heap.now.table.shared.table_id in
    record {
      table = c.hand_to.ensures.same.0 ∙ so.table;
      view = c.hand_to.ensures.same.1 ∙ so.view;
      handed = both_step olds ps at c.hand_to.new.padded c.padded-item.result below so.later
          (WasHanded id c.args.collector.now.seat.me.0) so.handed
          (subst (λ (v : View). WasHanded id v (padded_value (get_or ps at c.padded-item.result)) (padded_value c.hand_to.new.padded))
          so.view c.hand_to.ensures.handed);
      later = later_step olds ps at c.hand_to.new.padded c.padded-item.result below so.later;
    }

pub returns-clause-handed : goal.returns-clause-handed
returns-clause-handed c = record {
  as_many = (let same = c.loop-padded.auto.participants in omega (arith, same));
  each = λ who x y at_x at_y. c.loop-padded.invariant.handed who x y
      (let within = slice_get_within c.args.participants.now who x at_x in
      omega (arith, within, c.loop-padded.auto.padded-index-end, c.loop-padded-test.false)) at_x at_y;
}
