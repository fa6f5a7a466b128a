-- It is the distance in what is retained.
use Rattle.std.proofs.Common.{subst, sym}
use Rattle.tide_retained.specs.Holding.{IsSnapshotOf}
use Rattle.tide_snapshot.proofs.snapshot.Snapshot.distance.Goals as goal

pub returns : goal.returns
returns c = λ layout state is. c.distance.ensures layout state (subst (IsSnapshotOf layout state) (sym c.self.view_is) is)
