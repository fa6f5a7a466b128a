-- The calls so far failed, and left the bytes as they were.
use Rattle.std.proofs.Common.{◌+◌, ◌-◌, ◌<◌, ◌≤◌}
use Rattle.std.specs.Io.KnownBytes.{Keeps}
use Rattle.tide_io.proofs.real_source.RealSourceSource.read.Given as goal

abbrev pub invariant-loop-count : goal.invariant-loop-count
invariant-loop-count g l =
    Keeps l.initial.self.known l.self.known × (l.initial.self.faults ≤ l.self.faults) × (l.self.faults ≤ l.initial.self.faults + l.tries) × (l.tries < 100)

abbrev pub decreases-loop-count : goal.decreases-loop-count
decreases-loop-count g l = 100 - l.tries
