-- Why the load of the slot makes the call, which then pays its register.
use Rattle.std.proofs.Common.{refl}
use Rattle.tide_heap.specs.tide_core.machine.Words.{value_of}
use Rattle.tide_mutator.proofs.cells_laws.SlotSteps.{got_by, may_get, slot_value}
use Rattle.tide_mutator.proofs.owed_laws.Answering.{counts, enters, owes, paid_answered, replied_as}
use Rattle.tide_mutator.proofs.cells.slots.get.Goals as goal

pub load_link-word-requires-clause-may : goal.load_link-word-requires-clause-may
load_link-word-requires-clause-may g c =
    enters c.requires.may _ (may_get _ _ _ _ c.args.dst c.args.cell c.args.slot c.requires.may.calling
    (c.requires.may.told refl) c.requires.may.planned)

pub show-requires-clause-value : goal.show-requires-clause-value
show-requires-clause-value g c =
    (slot_value _ _ _ _ c.args.dst c.args.cell c.args.slot c.requires.may.calling (c.requires.may.told refl)
    c.requires.may.planned c.load_link-word.ensures.step.follows.log c.load_link-word.result
    c.load_link-word.ensures.step.follows.moment).0

pub show-requires-clause-owing : goal.show-requires-clause-owing
show-requires-clause-owing g c =
    owes c.requires.may c.load_link-word.new.self c.args.dst (value_of c.load_link-word.result)
    (got_by _ _ _ _ c.args.dst c.args.cell c.args.slot c.requires.may.calling (c.requires.may.told
    refl) c.requires.may.planned c.load_link-word.result c.load_link-word.new.self.seat.me.0
    c.load_link-word.ensures.step.follows)

pub show-requires-clause-counts : goal.show-requires-clause-counts
show-requires-clause-counts g c =
    counts c.requires.may c.load_link-word.new.self c.args.dst (value_of c.load_link-word.result)
    (got_by _ _ _ _ c.args.dst c.args.cell c.args.slot c.requires.may.calling
    (c.requires.may.told refl) c.requires.may.planned c.load_link-word.result c.load_link-word.new.self.seat.me.0
    c.load_link-word.ensures.step.follows)

pub returns : goal.returns
returns g c = record {
  answered = replied_as c.show.ensures.reply (paid_answered c.requires.may c.load_link-word.new.self c.args.dst (value_of c.load_link-word.result)
      (got_by _ _ _ _ c.args.dst c.args.cell c.args.slot c.requires.may.calling
      (c.requires.may.told refl) c.requires.may.planned c.load_link-word.result c.load_link-word.new.self.seat.me.0
      c.load_link-word.ensures.step.follows) (c.load_link-word.ensures.step.table, c.load_link-word.ensures.step.seat)
      c.show.ensures.same_pass c.show.ensures.paid);
}
