-- The party that was behind the handle has done it, and is behind it again.
use Rattle.std.proofs.Common.{subst}
use Rattle.tide_c.proofs.Exported.{through}
use Rattle.tide_c.specs.Looks.{HasFound}
use Rattle.tide_c.specs.Statuses.{AsSnapshot}
use Rattle.tide_c.specs.declared.party.Party.{Party}
use Rattle.tide_c.proofs.exports.tide_find.Goals as goal

pub returns-clause-found : goal.returns-clause-found
returns-clause-found c =
    through (AsSnapshot (HasFound c.args.cell c.find-status.new.found)) c.args.snapshot.now.value c.put.new.handle.value c.code-2.result c.in-Some.party.value
    c.in-Some.party.value c.find-status.result c.in-Some.ensures.value
    c.put.ensures c.code-2.ensures
    (subst (λ (p : Party). AsSnapshot (HasFound c.args.cell c.find-status.new.found) p p c.find-status.result) c.deref.ensures c.find-status.ensures.found)
