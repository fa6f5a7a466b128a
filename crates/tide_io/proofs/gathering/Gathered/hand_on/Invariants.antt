-- All that was taken stays, and less and less of it waits.
use Rattle.std.proofs.Common.{◌≤◌, length}
use Rattle.std.specs.Io.KnownBytes.{Keeps}
use Rattle.tide_io.specs.Gathering.{all_taken}
use Rattle.tide_io.proofs.gathering.Gathered.hand_on.Given as goal

abbrev pub invariant-loop-self : goal.invariant-loop-self
invariant-loop-self g l = Keeps (all_taken l.initial.self) (all_taken l.self) × (l.initial.self.faults ≤ l.self.faults)

abbrev pub decreases-loop-self : goal.decreases-loop-self
decreases-loop-self g l = length l.self.waiting
