-- Why the store of the element makes the call, which then pays the barrier.
use Rattle.tide_mutator.proofs.calls_laws.acting_laws.PropertySteps.{may_put_property, put_property_by}
use Rattle.tide_mutator.proofs.owed_laws.Answering.{enters, linked_owing, shaded_answered, shaded_teller, shaded_tells}
use Rattle.tide_mutator.proofs.calls.properties.put_property.Goals as goal

pub store_element-requires-clause-may : goal.store_element-requires-clause-may
store_element-requires-clause-may g c =
    enters c.requires.may _ (may_put_property _ _ _ _ c.args.array c.args.place c.requires.may.fits.1
    c.requires.may.calling c.args.cell c.args.value c.requires.may.planned c.val_word.result c.val_word.ensures)

pub write_barrier-requires-clause-owing : goal.write_barrier-requires-clause-owing
write_barrier-requires-clause-owing g c = λ κs outlives.
    linked_owing c.requires.may (put_property_by _ _ _ _ c.args.array c.args.place c.requires.may.fits.1
    c.requires.may.calling c.args.cell c.args.value c.requires.may.planned c.val_word.result c.val_word.ensures)
    c.store_element.ensures.step

pub store_call-requires-clause-mutator : goal.store_call-requires-clause-mutator
store_call-requires-clause-mutator g c =
    shaded_teller c.requires.may (put_property_by _ _ _ _ c.args.array c.args.place c.requires.may.fits.1
    c.requires.may.calling c.args.cell c.args.value c.requires.may.planned c.val_word.result c.val_word.ensures)
    c.store_element.ensures.step c.write_barrier.new.pass c.write_barrier.ensures.same_pass c.write_barrier.ensures.shaded

pub store_call-requires-clause-may : goal.store_call-requires-clause-may
store_call-requires-clause-may g c =
    shaded_tells c.requires.may (put_property_by _ _ _ _ c.args.array c.args.place c.requires.may.fits.1
    c.requires.may.calling c.args.cell c.args.value c.requires.may.planned c.val_word.result c.val_word.ensures)
    c.store_element.ensures.step c.write_barrier.new.pass c.write_barrier.ensures.same_pass c.write_barrier.ensures.shaded

pub returns : goal.returns
returns g c = record {
  answered = shaded_answered c.requires.may (put_property_by _ _ _ _ c.args.array c.args.place c.requires.may.fits.1
      c.requires.may.calling c.args.cell c.args.value c.requires.may.planned c.val_word.result c.val_word.ensures)
      c.store_element.ensures.step c.write_barrier.new.pass c.write_barrier.ensures.same_pass c.write_barrier.ensures.shaded
      c.store_call.ensures.step;
}
