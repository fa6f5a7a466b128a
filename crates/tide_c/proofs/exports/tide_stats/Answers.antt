-- The party that was behind the handle has done it, and is behind it again.
use Rattle.std.proofs.Common.{subst}
use Rattle.tide_c.proofs.Exported.{through}
use Rattle.tide_c.specs.Turns.{HasTold}
use Rattle.tide_c.specs.Statuses.{AsKeeper}
use Rattle.tide_c.specs.declared.party.Party.{Party}
use Rattle.tide_c.proofs.exports.tide_stats.Goals as goal

pub returns-clause-told : goal.returns-clause-told
returns-clause-told c =
    through (AsKeeper (HasTold c.figures-status.new.figures)) c.args.keeper.now.value c.put.new.handle.value c.code-2.result c.in-Some.party.value
    c.in-Some.party.value c.figures-status.result c.in-Some.ensures.value
    c.put.ensures c.code-2.ensures
    (subst (λ (p : Party). AsKeeper (HasTold c.figures-status.new.figures) p p c.figures-status.result) c.deref.ensures c.figures-status.ensures.told)
