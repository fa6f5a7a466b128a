-- What the loop of part::run_share keeps.
use Rattle.std.proofs.Common.{◌≡◌, ◌+◌, ◌≤◌, false}
use Rattle.tide_periods.specs.Asking.{IsCursor}
use Rattle.tide_periods.specs.Left.{left_of}
use Rattle.tide_periods.proofs.PartLoops.{IsSharing}
use Rattle.tide_periods.proofs.part.run_share.Given as goal

abbrev pub invariant-loop-made : goal.invariant-loop-made
invariant-loop-made g l = record {
  sharing : IsSharing (g.T.Recorder.recorded l.initial.recorder) (g.T.Recorder.recorded l.recorder) l.run l.initial.cursor.who l._made false;
  cursor : IsCursor (g.T.Recorder.recorded l.recorder) l.cursor;
  left : left_of (g.T.Recorder.recorded l.recorder).state.claims l.cursor + l._made ≤ left_of (g.T.Recorder.recorded l.initial.recorder).state.claims l.initial.cursor;
  stands : g.T.Recorder.stands l.recorder;
  ops : l.cursor.ops ≡ l.initial.cursor.ops;
  who : l.cursor.who ≡ l.initial.cursor.who;
}
