-- It is who is asked that does it.
use Rattle.std.proofs.Common.{refl}
use Rattle.tide_c.proofs.Exported.{by_member}
use Rattle.tide_c.specs.Calls.{HasRested}
use Rattle.tide_c.proofs.party.Party.rest.Goals as goal

pub returns-in-Member-clause-rested : goal.returns-in-Member-clause-rested
returns-in-Member-clause-rested c =
    by_member HasRested c.args.self.now _ c.in-Member.member c.rest.new.self c.rest.result c.in-Member.is refl c.rest.ensures.rested
