-- Why each note was taken in.
use Rattle.std.proofs.Common.{◌<◌, ◌∙◌, sym, ap, arith, length, get_or, subst, take, take_all}
use Rattle.std.proofs.lemmas.Option.{slice_get-get_or, slice_get_within}
use Rattle.tide_heap.specs.tide_core.declared.machine.view.View.{View}
use Rattle.tide_threads.proofs.Loops.{both_step, later_step, taken_step}
use Rattle.tide_threads.proofs.Taking.{TookNotes-all}
use Rattle.tide_threads.specs.Acting.{noted_all, notes_in}
use Rattle.tide_threads.specs.Playing.{GaveNote, MayTake}
use Rattle.tide_threads.proofs.collecting.take_in.Goals as goal

pub take_from-requires : goal.take_from-requires
take_from-requires c =
    let at = c.loop-padded.padded-index in
    let ps = c.loop-padded.participants in
    let below : at < length ps = omega (arith, c.loop-padded-test.true, c.loop-padded.auto.participants) in
    let so = c.loop-padded.invariant in
    let olds = c.args.participants.now in
    let v = c.args.collector.now.seat.me.0 in
    let id = c.args.heap.now.table.shared.table_id in
    let took = TookNotes-all (notes_in (take at olds)) v in record {
      own = so.table ∙ c.requires.own;
      running = ap (λ (u : View). u.frozen) so.taken ∙ took.frozen ∙ c.requires.running;
      may = λ note out. subst (λ (n : _). MayTake id n note) (sym (ap (λ (u : View). u.period) so.taken ∙ took.period))
          (c.requires.may at (get_or ps at c.padded-item.result) note
          (sym (so.later at (omega arith)) ∙ slice_get-get_or ps at c.padded-item.result below) out);
    }

pub loop-padded-preserved : goal.loop-padded-preserved
loop-padded-preserved c =
    let at = c.loop-padded.padded-index in
    let ps = c.loop-padded.participants in
    let below : at < length ps = omega (arith, c.loop-padded-test.true, c.loop-padded.auto.participants) in
    let so = c.loop-padded.invariant in
    let olds = c.args.participants.now in
    let took = c.take_from.ensures in
    record {
      table = took.same ∙ so.table;
      taken = took.taken ∙ taken_step olds ps at c.take_from.new.padded c.padded-item.result below so.later c.args.collector.now.seat.me.0
          c.loop-padded.collector.seat.me.0 so.taken;
      gave = both_step olds ps at c.take_from.new.padded c.padded-item.result below so.later GaveNote so.gave took.gave;
      later = later_step olds ps at c.take_from.new.padded c.padded-item.result below so.later;
    }

pub returns-clause-taken : goal.returns-clause-taken
returns-clause-taken c =
    let so = c.loop-padded.invariant in
    so.taken
    ∙ ap (λ l. noted_all (notes_in l) c.args.collector.now.seat.me.0)
    (take_all c.loop-padded.padded-index c.args.participants.now
    (omega (arith, c.loop-padded.auto.padded-index-end, c.loop-padded-test.false)))

pub returns-clause-gave : goal.returns-clause-gave
returns-clause-gave c = record {
  as_many = (let same = c.loop-padded.auto.participants in omega (arith, same));
  each = λ who x y at_x at_y. c.loop-padded.invariant.gave who x y
      (let within = slice_get_within c.args.participants.now who x at_x in
      omega (arith, within, c.loop-padded.auto.padded-index-end, c.loop-padded-test.false)) at_x at_y;
}
