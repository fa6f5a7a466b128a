-- The class is the last before this one that begins at the id or before it.
use Rattle.std.proofs.Common.{ℕ, ◌<◌, ◌≤◌}
use Rattle.std.specs.Prelude.{slice_index}
use Rattle.tide_layout.proofs.firsts.Firsts.class_of.Given as goal

abbrev pub invariant-loop-later : goal.invariant-loop-later
invariant-loop-later l = record {
  small : l.class < l.later;
  not_before : slice_index l.self.ids l.class ≤ l.id;
  last : (later : ℕ) → l.class < later → later < l.later → l.id < slice_index l.self.ids later;
}
