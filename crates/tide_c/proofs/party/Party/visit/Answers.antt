-- It is who is asked that does it.
use Rattle.std.proofs.Common.{refl}
use Rattle.tide_c.proofs.Exported.{by_helper}
use Rattle.tide_c.specs.Turns.{HasVisited}
use Rattle.tide_c.proofs.party.Party.visit.Goals as goal

pub returns-in-Helper-clause-visited : goal.returns-in-Helper-clause-visited
returns-in-Helper-clause-visited c =
    by_helper HasVisited c.args.self.now _ c.in-Helper.helper c.visit.new.self c.visit.result c.in-Helper.is refl c.visit.ensures.visited
