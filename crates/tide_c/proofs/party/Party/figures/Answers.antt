-- It is who is asked that tells it, and stays as it is.
use Rattle.std.proofs.Common.{refl}
use Rattle.tide_c.proofs.Exported.{by_keeper}
use Rattle.tide_c.specs.Turns.{HasTold}
use Rattle.tide_c.specs.declared.status.Status.TheVariants.{Done}
use Rattle.tide_c.proofs.party.Party.figures.Goals as goal

pub returns-clause-told : goal.returns-clause-told
returns-clause-told c =
    by_keeper (HasTold c.in-Keeper.keeper.figures) c.args.self.now c.args.self.now c.in-Keeper.keeper c.in-Keeper.keeper Done
    c.in-Keeper.is c.in-Keeper.is (refl, refl)
