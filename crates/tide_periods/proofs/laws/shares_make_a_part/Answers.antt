-- Answers to the goals of laws::shares_make_a_part.
use Rattle.tide_periods.proofs.Composing.{shares-make-part}
use Rattle.tide_periods.proofs.laws.shares_make_a_part.Goals as goal

pub returns : goal.returns
returns c = record { part = shares-make-part }
