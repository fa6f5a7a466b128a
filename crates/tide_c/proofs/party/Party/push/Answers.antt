-- It is who is asked that does it.
use Rattle.std.proofs.Common.{refl}
use Rattle.tide_c.proofs.Exported.{by_member}
use Rattle.tide_c.specs.Calls.{HasPushed}
use Rattle.tide_c.proofs.party.Party.push.Goals as goal

pub returns-in-Member-clause-pushed : goal.returns-in-Member-clause-pushed
returns-in-Member-clause-pushed c =
    by_member (HasPushed c.args.src c.args.at.now c.push.new.at) c.args.self.now _ c.in-Member.member c.push.new.self c.push.result c.in-Member.is refl c.push.ensures.pushed
