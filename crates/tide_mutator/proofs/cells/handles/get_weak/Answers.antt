-- Why the load of the handle makes the call, which then pays its register.
use Rattle.std.proofs.Common.{refl}
use Rattle.tide_heap.specs.tide_core.machine.Words.{value_of}
use Rattle.tide_mutator.proofs.cells_laws.HandleSteps.{got_weak_by, got_weak_value, may_get_weak}
use Rattle.tide_mutator.proofs.owed_laws.Answering.{counts, enters, owes, paid_answered, replied_as}
use Rattle.tide_mutator.proofs.cells.handles.get_weak.Goals as goal

pub load_weak-word-requires-clause-may : goal.load_weak-word-requires-clause-may
load_weak-word-requires-clause-may g c =
    enters c.requires.may _ (may_get_weak _ _ _ _ c.args.at c.from.result c.from.ensures c.requires.may.calling
    (c.requires.may.told refl) c.args.dst c.requires.may.fits.1 c.requires.may.planned)

pub show-requires-clause-value : goal.show-requires-clause-value
show-requires-clause-value g c =
    got_weak_value _ _ _ _ c.args.at c.from.result c.from.ensures c.requires.may.calling (c.requires.may.told refl)
    c.args.dst c.requires.may.fits.1 c.requires.may.planned c.load_weak-word.result c.load_weak-word.new.self.seat.me.0
    c.load_weak-word.ensures.step.follows

pub show-requires-clause-owing : goal.show-requires-clause-owing
show-requires-clause-owing g c =
    owes c.requires.may c.load_weak-word.new.self c.args.dst (value_of c.load_weak-word.result)
    (got_weak_by _ _ _ _ c.args.at c.from.result c.from.ensures c.requires.may.calling
    (c.requires.may.told refl) c.args.dst c.requires.may.fits.1 c.requires.may.planned c.load_weak-word.result
    c.load_weak-word.new.self.seat.me.0 c.load_weak-word.ensures.step.follows)

pub show-requires-clause-counts : goal.show-requires-clause-counts
show-requires-clause-counts g c =
    counts c.requires.may c.load_weak-word.new.self c.args.dst (value_of c.load_weak-word.result)
    (got_weak_by _ _ _ _ c.args.at c.from.result c.from.ensures c.requires.may.calling
    (c.requires.may.told refl) c.args.dst c.requires.may.fits.1 c.requires.may.planned c.load_weak-word.result
    c.load_weak-word.new.self.seat.me.0 c.load_weak-word.ensures.step.follows)

pub returns : goal.returns
returns g c = record {
  answered = replied_as c.show.ensures.reply (paid_answered c.requires.may c.load_weak-word.new.self c.args.dst (value_of c.load_weak-word.result)
      (got_weak_by _ _ _ _ c.args.at c.from.result c.from.ensures
      c.requires.may.calling (c.requires.may.told refl) c.args.dst c.requires.may.fits.1 c.requires.may.planned
      c.load_weak-word.result c.load_weak-word.new.self.seat.me.0 c.load_weak-word.ensures.step.follows)
      (c.load_weak-word.ensures.step.table, c.load_weak-word.ensures.step.seat) c.show.ensures.same_pass
      c.show.ensures.paid);
}
