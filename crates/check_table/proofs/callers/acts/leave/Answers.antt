-- It claims nothing by its own calls, so it may retire.
use Rattle.std.proofs.Common.{refl, ap, ◌∙◌, ◌++◌, ◌∷◌, [], List, true, rules}
use Rattle.check_table.proofs.callers_laws.Calls.{between_calls, may_call, told_ready}
use Rattle.check_table.specs.callers.Working.{all_calls, done, put_calls}
use Rattle.tide_heap.specs.tide_core.machine.Own.{Own}
use Rattle.tide_heap.specs.tide_core.declared.machine.view.View.{View}
use Rattle.tide_model.specs.declared.entry.Event.{Event}
use Rattle.tide_model.specs.declared.op.Op.TheVariants.{Retire}
use Rattle.check_table.proofs.callers.acts.leave.Goals as goal

pub retire-requires-clause-may : goal.retire-requires-clause-may
retire-requires-clause-may g c = record {
  own = c.requires.own;
  runs = c.requires.ready.runs;
  may = may_call c.args.heap.now.key.layout (g.S.HeapShapes.lists c.args.heap.now.key.shapes) c.args.pass.now.seat.me.0
      (put_calls c.args.pass.now.seat.me.0.who) Retire c.requires.ready refl tt
      (λ s own. (refl, ap (λ (o : Own). o.claims) own));
}

pub store_call-requires-clause-may : goal.store_call-requires-clause-may
store_call-requires-clause-may g c = search rules depth 1

pub returns-clause-ready : goal.returns-clause-ready
returns-clause-ready g c =
    let v = c.args.pass.now.seat.me.0 in
    let stepped = c.retire.ensures.step.1.follows.view in
    let tell = c.store_call.ensures.step in
    told_ready c.args.heap.now.key.layout (g.S.HeapShapes.lists c.args.heap.now.key.shapes) v
    c.retire.new.self.seat.me.0 _ (put_calls v.who) (all_calls v.who) true 4 c.requires.ready
    (ap between_calls stepped) (ap (λ (x : View). x.owed) stepped)
    (ap (λ (x : View). x.mine) stepped
    ∙ ap (λ (l : List Event). l ++ done v.who Retire ∷ []) c.requires.ready.made)
    (ap (λ (x : View). x.left) stepped) (tell.0, tell.1.follows)

pub returns-clause-stays : goal.returns-clause-stays
returns-clause-stays g c = search rules
