-- It is who is asked that does it.
use Rattle.std.proofs.Common.{refl}
use Rattle.tide_c.proofs.Exported.{by_member}
use Rattle.tide_c.specs.Calls.{HasPopped}
use Rattle.tide_c.proofs.party.Party.pop.Goals as goal

pub returns-in-Member-clause-popped : goal.returns-in-Member-clause-popped
returns-in-Member-clause-popped c =
    by_member HasPopped c.args.self.now _ c.in-Member.member c.pop.new.self c.pop.result c.in-Member.is refl c.pop.ensures.popped
