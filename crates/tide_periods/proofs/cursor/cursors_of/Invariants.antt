-- What the loop of cursor::cursors_of keeps.
use Rattle.std.proofs.Common.{◌≡◌, length, map}
use Rattle.tide_periods.specs.Asking.{AreNew}
use Rattle.tide_periods.proofs.cursor.cursors_of.Given as goal

abbrev pub invariant-loop-ops : goal.invariant-loop-ops
invariant-loop-ops l = record {
  are : AreNew l.cursors.items (map (λ ops. ops.items) l.yielded);
  who : l.who ≡ length l.yielded;
  count : length l.cursors.items ≡ length l.yielded;
}
