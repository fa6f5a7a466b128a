-- The calls so far failed, and left the bytes as they were.
use Rattle.std.proofs.Common.{◌+◌, ◌-◌, ◌<◌, ◌≤◌}
use Rattle.std.specs.Io.KnownBytes.{Keeps}
use Rattle.tide_io.proofs.real_sink.RealSink.flush_writer.Given as goal

abbrev pub invariant-loop-error : goal.invariant-loop-error
invariant-loop-error g l =
    Keeps l.initial.self.known l.self.known × (l.initial.self.faults ≤ l.self.faults) × (l.self.faults ≤ l.initial.self.faults + l.tries) × (l.tries < 100)

abbrev pub decreases-loop-error : goal.decreases-loop-error
decreases-loop-error g l = 100 - l.tries
