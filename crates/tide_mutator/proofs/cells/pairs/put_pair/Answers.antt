-- Why the store of the pair makes the call, and the call word tells it.
use Rattle.tide_mutator.proofs.cells_laws.PairSteps.{may_put_pair, put_pair_by}
use Rattle.tide_mutator.proofs.owed_laws.Answering.{enters, stored_answered, stored_teller, stored_tells}
use Rattle.tide_mutator.proofs.cells.pairs.put_pair.Goals as goal

pub store_pair-requires-clause-may : goal.store_pair-requires-clause-may
store_pair-requires-clause-may g c =
    enters c.requires.may _ (may_put_pair _ _ _ _ c.args.table c.args.place c.requires.may.fits.0
    c.requires.may.calling c.args.key c.args.value c.requires.may.planned c.pair_word.result c.pair_word.ensures)

pub store_call-requires-clause-mutator : goal.store_call-requires-clause-mutator
store_call-requires-clause-mutator g c =
    stored_teller c.requires.may (put_pair_by _ _ _ _ c.args.table c.args.place c.requires.may.fits.0
    c.requires.may.calling c.args.key c.args.value c.requires.may.planned c.pair_word.result c.pair_word.ensures)
    c.store_pair.ensures.step

pub store_call-requires-clause-may : goal.store_call-requires-clause-may
store_call-requires-clause-may g c =
    stored_tells c.requires.may (put_pair_by _ _ _ _ c.args.table c.args.place c.requires.may.fits.0
    c.requires.may.calling c.args.key c.args.value c.requires.may.planned c.pair_word.result c.pair_word.ensures)
    c.store_pair.ensures.step

pub returns : goal.returns
returns g c = record {
  answered = stored_answered c.requires.may (put_pair_by _ _ _ _ c.args.table c.args.place c.requires.may.fits.0
      c.requires.may.calling c.args.key c.args.value c.requires.may.planned c.pair_word.result c.pair_word.ensures)
      c.store_pair.ensures.step c.store_call.ensures.step;
}
