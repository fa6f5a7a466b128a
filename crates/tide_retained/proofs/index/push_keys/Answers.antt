-- One more was put there.
use Rattle.std.proofs.Common.{[], ◌∷◌}
use Rattle.std.proofs.lemmas.List.{get_or_default}
use Rattle.tide_retained.specs.Index.{entry}
use Rattle.tide_retained.proofs.ListLaws.{flat_next}
use Rattle.tide_retained.proofs.index.push_keys.Goals as goal

pub loop-pair-preserved : goal.loop-pair-preserved
loop-pair-preserved c =
    flat_next (λ pair. entry pair.key c.args.table ∷ []) c.args.entries.now.items c.loop-pair.entries.items _ c.args.pairs.now c.loop-pair.pair-index _ c.loop-pair-test.true (get_or_default c.args.pairs.now c.loop-pair.pair-index _ _ c.loop-pair-test.true)
    c.loop-pair.invariant c.in_ok-push_entry.ensures
