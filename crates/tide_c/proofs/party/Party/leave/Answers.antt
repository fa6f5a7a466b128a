-- It is who is asked that does it.
use Rattle.std.proofs.Common.{refl}
use Rattle.tide_c.proofs.Exported.{by_member}
use Rattle.tide_c.specs.Calls.{HasLeft}
use Rattle.tide_c.proofs.party.Party.leave.Goals as goal

pub returns-in-Member-clause-left : goal.returns-in-Member-clause-left
returns-in-Member-clause-left c =
    by_member HasLeft c.args.self.now _ c.in-Member.member c.leave.new.self c.leave.result c.in-Member.is refl c.leave.ensures.left
