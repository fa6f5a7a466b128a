-- The register holds what was set, whatever others did.
use Rattle.std.proofs.Common.{refl, sym, ap, ◌∙◌, ◌++◌, ◌∷◌, [], List, false, rules}
use Rattle.check_table.proofs.callers_laws.Calls.{between_calls, may_call, may_tell, own_now, seven, told_ready}
use Rattle.check_table.specs.callers.Working.{done, set_calls, strong_calls}
use Rattle.tide_heap.specs.tide_core.machine.Own.{Own}
use Rattle.tide_heap.specs.tide_core.declared.machine.view.View.{View}
use Rattle.tide_model.specs.declared.entry.Event.{Event}
use Rattle.tide_model.specs.declared.op.Op.TheVariants.{StrongSet}
use Rattle.tide_model.specs.declared.val.Val.{Val}
use Rattle.tide_heap.specs.tide_words.forms.ValueWord.{val_word}
use Rattle.check_table.proofs.callers.acts.put_strong.Goals as goal

pub store_strong-requires-clause-may : goal.store_strong-requires-clause-may
store_strong-requires-clause-may g c = record {
  own = c.requires.own;
  runs = c.requires.ready.runs;
  may = λ w running is.
      let layout = c.args.heap.now.key.layout in
      let shapes = g.S.HeapShapes.lists c.args.heap.now.key.shapes in
      let v = c.args.pass.now.seat.me.0 in
      let own = own_now layout shapes v (set_calls v.who) c.requires.ready.made w running is in
      let holds = ap (λ (o : Own). o.registers 0) own ∙ seven layout v.who in (
        refl,
        c.val_word-word.ensures ∙ sym (ap (λ (value : Val). val_word value) holds),
        may_call layout shapes v (set_calls v.who) (StrongSet 0 0) c.requires.ready refl (c.requires.strong, c.requires.has)
            (λ s same. refl) w running is,
      );
}

pub store_call-requires-clause-may : goal.store_call-requires-clause-may
store_call-requires-clause-may g c =
    let v = c.args.pass.now.seat.me.0 in
    let step = c.store_strong.ensures.step.1 in
    let stepped = step.follows.view in record {
      own = step.table ∙ c.requires.own;
      runs = ap (λ (x : View). x.runs) stepped ∙ c.requires.ready.runs;
      may = may_tell c.args.heap.now.key.layout (g.S.HeapShapes.lists c.args.heap.now.key.shapes) v
          c.store_strong.new.self.seat.me.0 (set_calls v.who) (strong_calls v.who) _ c.requires.ready (ap between_calls stepped)
          (ap (λ (x : View). x.mine) stepped
          ∙ ap (λ (l : List Event). l ++ done v.who (StrongSet 0 0) ∷ []) c.requires.ready.made) refl;
    }

pub returns-clause-ready : goal.returns-clause-ready
returns-clause-ready g c =
    let v = c.args.pass.now.seat.me.0 in
    let stepped = c.store_strong.ensures.step.1.follows.view in
    let tell = c.store_call.ensures.step in
    told_ready c.args.heap.now.key.layout (g.S.HeapShapes.lists c.args.heap.now.key.shapes) v
    c.store_strong.new.self.seat.me.0 c.store_call.new.self.seat.me.0 (set_calls v.who) (strong_calls v.who) false _ c.requires.ready
    (ap between_calls stepped) (ap (λ (x : View). x.owed) stepped)
    (ap (λ (x : View). x.mine) stepped
    ∙ ap (λ (l : List Event). l ++ done v.who (StrongSet 0 0) ∷ []) c.requires.ready.made)
    (ap (λ (x : View). x.left) stepped ∙ c.requires.ready.is_left) (tell.0, tell.1.follows)

pub returns-clause-stays : goal.returns-clause-stays
returns-clause-stays g c = search rules
