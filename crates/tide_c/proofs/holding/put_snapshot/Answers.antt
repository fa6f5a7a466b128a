-- The snapshot is behind the handle.
use Rattle.std.proofs.Common.{◌∙◌, ap}
use Rattle.std.specs.Prelude.{Some}
use Rattle.tide_c.specs.declared.party.Party.{Party}
use Rattle.tide_c.proofs.holding.put_snapshot.Goals as goal
use mathlib.Core.Logic.{inr}

pub returns-in-Ok : goal.returns-in-Ok
returns-in-Ok c = inr (c.in-Some.snapshot, c.in-Some.is, c.put.ensures ∙ ap (λ (p : Party). Some p) c.in-Ok.ensures.ok)
