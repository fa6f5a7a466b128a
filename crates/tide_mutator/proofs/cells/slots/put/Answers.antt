-- Why the store of the slot makes the call, which then pays the barrier.
use Rattle.std.proofs.Common.{refl, rules}
use Rattle.tide_heap.specs.tide_call.declared.action.Action.TheVariants.{StoreSlot}
use Rattle.tide_model.specs.declared.op.Reply.TheVariants.{Done}
use Rattle.tide_mutator.proofs.cells_laws.SlotSteps.{may_put_with, put_with}
use Rattle.tide_mutator.proofs.owed_laws.Answering.{enters, shaded_answered, shaded_teller, shaded_tells}
use Rattle.tide_mutator.proofs.owed_laws.Shading.{owing_made}
use Rattle.tide_mutator.proofs.cells.slots.put.Goals as goal

pub store_link-requires-clause-may : goal.store_link-requires-clause-may
store_link-requires-clause-may g c =
    enters c.requires.may _ (may_put_with _ _ _ _ c.args.cell c.args.slot c.args.value c.requires.may.calling
    (c.requires.may.told refl) c.requires.may.planned c.val_word-word.result c.val_word-word.ensures)

pub write_barrier-requires-clause-owing : goal.write_barrier-requires-clause-owing
write_barrier-requires-clause-owing g c = λ κs outlives.
    let h = c.args.heap.now in
    let shapes = g.S.HeapShapes.lists h.key.shapes in
    let v = c.args.pass.now.seat.me.0 in
    let does = StoreSlot c.args.cell c.args.slot c.args.value in
    owing_made h.key.layout shapes c.args.call.op does Done v _ _ c.requires.may.calling
    (put_with h.key.layout shapes v c.args.call.op c.args.cell c.args.slot c.args.value c.requires.may.calling
    (c.requires.may.told refl) c.requires.may.planned c.val_word-word.result c.val_word-word.ensures _
    (search rules depth 1))

pub store_call-requires-clause-mutator : goal.store_call-requires-clause-mutator
store_call-requires-clause-mutator g c =
    shaded_teller c.requires.may (put_with _ _ _ _ c.args.cell c.args.slot c.args.value c.requires.may.calling
    (c.requires.may.told refl) c.requires.may.planned c.val_word-word.result c.val_word-word.ensures)
    c.store_link.ensures.step c.write_barrier.new.pass c.write_barrier.ensures.same_pass c.write_barrier.ensures.shaded

pub store_call-requires-clause-may : goal.store_call-requires-clause-may
store_call-requires-clause-may g c =
    shaded_tells c.requires.may (put_with _ _ _ _ c.args.cell c.args.slot c.args.value c.requires.may.calling
    (c.requires.may.told refl) c.requires.may.planned c.val_word-word.result c.val_word-word.ensures)
    c.store_link.ensures.step c.write_barrier.new.pass c.write_barrier.ensures.same_pass c.write_barrier.ensures.shaded

pub returns : goal.returns
returns g c = record {
  answered = shaded_answered c.requires.may (put_with _ _ _ _ c.args.cell c.args.slot c.args.value
      c.requires.may.calling (c.requires.may.told refl) c.requires.may.planned c.val_word-word.result
      c.val_word-word.ensures) c.store_link.ensures.step c.write_barrier.new.pass c.write_barrier.ensures.same_pass c.write_barrier.ensures.shaded
      c.store_call.ensures.step;
}
