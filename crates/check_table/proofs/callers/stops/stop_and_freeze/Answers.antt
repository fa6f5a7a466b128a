-- The one note that is wanted was taken in.
use Rattle.std.proofs.Common.{rules}
use Rattle.check_table.proofs.callers_laws.Notes.{in_then}
use Rattle.check_table.proofs.callers.stops.stop_and_freeze.Goals as goal

pub freeze-requires-clause-all : goal.freeze-requires-clause-all
freeze-requires-clause-all g c = λ i party. in_then i _ _ _ (search rules) (c.requires.alone i party)

pub returns-clause-frozen : goal.returns-clause-frozen
returns-clause-frozen g c = search rules
