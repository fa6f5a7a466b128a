-- The register holds what was set, whatever others did.
use Rattle.std.proofs.Common.{refl, sym, ap, ◌∙◌}
use Rattle.check_table.proofs.callers_laws.Calls.{may_call, own_now, seven}
use Rattle.check_table.specs.callers.Working.{strong_calls}
use Rattle.tide_heap.specs.tide_core.machine.Own.{Own}
use Rattle.tide_model.specs.declared.op.Op.TheVariants.{WeakSet}
use Rattle.tide_model.specs.declared.val.Val.{Val}
use Rattle.tide_heap.specs.tide_words.forms.ValueWord.{val_word}
use Rattle.check_table.proofs.callers.acts.put_weak.Goals as goal

pub store_weak-requires-clause-may : goal.store_weak-requires-clause-may
store_weak-requires-clause-may g c = record {
  own = c.requires.own;
  runs = c.requires.ready.runs;
  may = λ w running is.
      let layout = c.args.heap.now.key.layout in
      let shapes = g.S.HeapShapes.lists c.args.heap.now.key.shapes in
      let v = c.args.pass.now.seat.me.0 in
      let own = own_now layout shapes v (strong_calls v.who) c.requires.ready.made w running is in
      let holds = ap (λ (o : Own). o.registers 0) own ∙ seven layout v.who in (
        refl,
        c.val_word-word.ensures ∙ sym (ap (λ (value : Val). val_word value) holds),
        may_call layout shapes v (strong_calls v.who) (WeakSet 0 0) c.requires.ready refl (c.requires.weak, c.requires.has)
            (λ s same. refl) w running is,
      );
}
