-- Why the load of the element makes the call, which then pays its register.
use Rattle.tide_heap.specs.tide_core.machine.Words.{value_of}
use Rattle.tide_mutator.proofs.calls_laws.acting_laws.PropertySteps.{element_value, got_property_by, may_get_property}
use Rattle.tide_mutator.proofs.owed_laws.Answering.{counts, enters, owes, paid_answered, replied_as}
use Rattle.tide_mutator.proofs.calls.properties.get_property.Goals as goal

pub load_element-word-requires-clause-may : goal.load_element-word-requires-clause-may
load_element-word-requires-clause-may g c =
    enters c.requires.may _ (may_get_property _ _ _ _ c.args.array c.args.place c.requires.may.fits.1
    c.requires.may.calling c.args.dst c.requires.may.planned)

pub show-requires-clause-value : goal.show-requires-clause-value
show-requires-clause-value g c =
    element_value _ _ _ _ c.args.array c.args.place c.requires.may.fits.1 c.requires.may.calling c.args.dst
    c.requires.may.planned c.load_element-word.ensures.step.follows.log c.load_element-word.result
    c.load_element-word.ensures.step.follows.moment

pub show-requires-clause-owing : goal.show-requires-clause-owing
show-requires-clause-owing g c =
    owes c.requires.may c.load_element-word.new.self c.args.dst (value_of c.load_element-word.result)
    (got_property_by _ _ _ _ c.args.array c.args.place c.requires.may.fits.1 c.requires.may.calling
    c.args.dst c.requires.may.planned c.load_element-word.result c.load_element-word.new.self.seat.me.0
    c.load_element-word.ensures.step.follows)

pub show-requires-clause-counts : goal.show-requires-clause-counts
show-requires-clause-counts g c =
    counts c.requires.may c.load_element-word.new.self c.args.dst (value_of c.load_element-word.result)
    (got_property_by _ _ _ _ c.args.array c.args.place c.requires.may.fits.1
    c.requires.may.calling c.args.dst c.requires.may.planned c.load_element-word.result
    c.load_element-word.new.self.seat.me.0 c.load_element-word.ensures.step.follows)

pub returns : goal.returns
returns g c = record {
  answered = replied_as c.show.ensures.reply (paid_answered c.requires.may c.load_element-word.new.self c.args.dst (value_of c.load_element-word.result)
      (got_property_by _ _ _ _ c.args.array c.args.place c.requires.may.fits.1
      c.requires.may.calling c.args.dst c.requires.may.planned c.load_element-word.result
      c.load_element-word.new.self.seat.me.0 c.load_element-word.ensures.step.follows)
      (c.load_element-word.ensures.step.table, c.load_element-word.ensures.step.seat) c.show.ensures.same_pass
      c.show.ensures.paid);
}
