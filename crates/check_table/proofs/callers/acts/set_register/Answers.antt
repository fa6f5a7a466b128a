-- A register may always be set.
use Rattle.std.proofs.Common.{refl, ap, ◌∙◌, ◌++◌, ◌∷◌, [], List, false, arith, rules}
use Rattle.check_table.proofs.callers_laws.Calls.{between_calls, may_call, told_ready}
use Rattle.check_table.specs.callers.Working.{done, set_calls}
use Rattle.tide_heap.specs.tide_core.declared.machine.view.View.{View}
use Rattle.tide_model.specs.declared.entry.Event.{Event}
use Rattle.tide_model.specs.declared.op.Op.TheVariants.{Set}
use Rattle.check_table.proofs.callers.acts.set_register.Goals as goal

pub store_register-requires-clause-may : goal.store_register-requires-clause-may
store_register-requires-clause-may g c = record {
  own = c.requires.own;
  runs = c.requires.ready.runs;
  may = λ w running is. (
    may_call c.args.heap.now.key.layout (g.S.HeapShapes.lists c.args.heap.now.key.shapes) c.args.pass.now.seat.me.0
        [] (Set 0 7) c.requires.ready refl (c.requires.has, omega arith) (λ s own. refl) w running is,
    (refl, c.val_word-word.ensures),
  );
}

pub store_call-requires-clause-may : goal.store_call-requires-clause-may
store_call-requires-clause-may g c = search rules depth 1

pub returns-clause-ready : goal.returns-clause-ready
returns-clause-ready g c =
    let v = c.args.pass.now.seat.me.0 in
    let stepped = c.store_register.ensures.step.1.follows.view in
    let tell = c.store_call.ensures.step in
    told_ready c.args.heap.now.key.layout (g.S.HeapShapes.lists c.args.heap.now.key.shapes) v
    c.store_register.new.self.seat.me.0 _ [] (set_calls v.who) false 1 c.requires.ready
    (ap between_calls stepped) (ap (λ (x : View). x.owed) stepped)
    (ap (λ (x : View). x.mine) stepped
    ∙ ap (λ (l : List Event). l ++ done v.who (Set 0 7) ∷ []) c.requires.ready.made)
    (ap (λ (x : View). x.left) stepped ∙ c.requires.ready.is_left) (tell.0, tell.1.follows)

pub returns-clause-stays : goal.returns-clause-stays
returns-clause-stays g c = search rules
