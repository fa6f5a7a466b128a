-- Why the load of the pair makes the call, which then pays its register.
use Rattle.tide_mutator.proofs.cells_laws.PairSteps.{got_pair_by, may_get_pair}
use Rattle.tide_mutator.proofs.owed_laws.Answering.{counts, enters, owes, paid_answered}
use Rattle.tide_mutator.proofs.cells.pairs.get_pair.Goals as goal

pub load_pair-requires-clause-may : goal.load_pair-requires-clause-may
load_pair-requires-clause-may g c =
    enters c.requires.may _ (may_get_pair _ _ _ _ c.args.table c.args.place c.requires.may.fits.1
    c.requires.may.calling c.args.dst c.args.value c.requires.may.planned)

pub pay-requires-clause-owing : goal.pay-requires-clause-owing
pay-requires-clause-owing g c =
    owes c.requires.may c.load_pair.new.self c.args.dst c.args.value
    (got_pair_by _ _ _ _ c.args.table c.args.place c.requires.may.fits.1 c.requires.may.calling
    c.args.dst c.args.value c.requires.may.planned c.load_pair.result c.load_pair.new.self.seat.me.0
    c.load_pair.ensures.step.follows)

pub pay-requires-clause-counts : goal.pay-requires-clause-counts
pay-requires-clause-counts g c =
    counts c.requires.may c.load_pair.new.self c.args.dst c.args.value
    (got_pair_by _ _ _ _ c.args.table c.args.place c.requires.may.fits.1 c.requires.may.calling
    c.args.dst c.args.value c.requires.may.planned c.load_pair.result c.load_pair.new.self.seat.me.0
    c.load_pair.ensures.step.follows)

pub returns : goal.returns
returns g c = record {
  answered = paid_answered c.requires.may c.load_pair.new.self c.args.dst c.args.value
      (got_pair_by _ _ _ _ c.args.table c.args.place c.requires.may.fits.1
      c.requires.may.calling c.args.dst c.args.value c.requires.may.planned c.load_pair.result
      c.load_pair.new.self.seat.me.0 c.load_pair.ensures.step.follows) (
        c.load_pair.ensures.step.table,
        c.load_pair.ensures.step.seat,
      ) c.pay.ensures.same_pass c.pay.ensures.paid;
}
