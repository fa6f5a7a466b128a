-- It is who is asked that tells it, and stays as it is.
use Rattle.std.proofs.Common.{refl}
use Rattle.tide_c.proofs.Exported.{by_snapshot}
use Rattle.tide_c.specs.Looks.{HasFound}
use Rattle.tide_c.specs.declared.status.Status.TheVariants.{Done}
use Rattle.tide_c.proofs.party.Party.find.Goals as goal

pub returns-clause-found : goal.returns-clause-found
returns-clause-found c =
    by_snapshot (HasFound c.args.cell c.of.result) c.args.self.now c.args.self.now c.in-Snapshot.snapshot
    c.in-Snapshot.snapshot Done c.in-Snapshot.is c.in-Snapshot.is (refl, c.of.ensures.found)
