-- What the loop of part::make_shares keeps.
use Rattle.std.proofs.Common.{ℕ, ◌≡◌, ◌<◌, ◌≤◌, false}
use Rattle.std.specs.Prelude.{Some, slice_get}
use Rattle.tide_periods.specs.declared.cursor.ScriptCursor.{ScriptCursor}
use Rattle.tide_periods.specs.Asking.{scripts_of}
use Rattle.tide_periods.specs.Left.{total_left}
use Rattle.tide_periods.proofs.PartLoops.{IsPartway}
use Rattle.tide_periods.specs.Part.{AreCursors}
use Rattle.tide_periods.proofs.part.make_shares.Given as goal

abbrev pub invariant-loop-cursor : goal.invariant-loop-cursor
invariant-loop-cursor g l = record {
  way : IsPartway (g.T.Recorder.recorded l.initial.recorder) (g.T.Recorder.recorded l.recorder) l.run l.cursor-index l.ended;
  left : total_left (g.T.Recorder.recorded l.recorder) l.cursors ≤ total_left (g.T.Recorder.recorded l.initial.recorder) l.initial.cursors;
  fewer : 0 < l.run → (k : ℕ) (cursor : ScriptCursor) → k < l.cursor-index → slice_get l.initial.cursors k ≡ Some cursor → cursor.retired ≡ false →
      total_left (g.T.Recorder.recorded l.recorder) l.cursors < total_left (g.T.Recorder.recorded l.initial.recorder) l.initial.cursors;
  later : (k : ℕ) → l.cursor-index ≤ k → slice_get l.cursors k ≡ slice_get l.initial.cursors k;
  stands : g.T.Recorder.stands l.recorder;
  scripts : scripts_of l.cursors ≡ scripts_of l.initial.cursors;
  cursors : AreCursors (g.T.Recorder.recorded l.recorder) l.cursors;
}
