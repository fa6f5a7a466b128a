-- It is who is asked that does it.
use Rattle.std.proofs.Common.{◌≡◌, refl}
use Rattle.std.specs.Prelude.{IfSome, None, Option, Some}
use Rattle.tide.specs.tide_snapshot.tide_retained.declared.contents.Contents.{Contents}
use Rattle.tide_c.proofs.Exported.{by_keeper}
use Rattle.tide_c.specs.Statuses.{AsKeeper}
use Rattle.tide_c.specs.Turns.{HasLooked, HasTurnedTo}
use Rattle.tide_c.specs.declared.party.KeeperParty.{KeeperParty}
use Rattle.tide_c.specs.declared.party.Party.{Party}
use Rattle.tide_c.specs.declared.party.Party.TheVariants.{Keeper}
use Rattle.tide_c.specs.declared.status.Status.{Status}
use Rattle.tide_c.proofs.party.Party.turn.Goals as goal

pub returns-in-Keeper-clause-turned : goal.returns-in-Keeper-clause-turned
returns-in-Keeper-clause-turned c =
    by_keeper HasTurnedTo c.args.self.now _ c.in-Keeper.keeper c.turn.new.self c.turn.result.0 c.in-Keeper.is refl
    c.turn.ensures.turned

-- what was taken is of that turn
looked : (taken : Option Contents) (old new : Party) (before after : KeeperParty) (status : Status) → old ≡ Keeper before →
    new ≡ Keeper after → IfSome taken (λ one. HasLooked one before after status) →
    IfSome taken (λ one. AsKeeper (HasLooked one) old new status)
looked None old new before after status is_old is_new did = did
looked (Some one) old new before after status is_old is_new did =
    by_keeper (HasLooked one) old new before after status is_old is_new did

pub returns-in-Keeper-clause-looked : goal.returns-in-Keeper-clause-looked
returns-in-Keeper-clause-looked c =
    looked c.turn.result.1 c.args.self.now _ c.in-Keeper.keeper c.turn.new.self c.turn.result.0 c.in-Keeper.is refl
    c.turn.ensures.looked
