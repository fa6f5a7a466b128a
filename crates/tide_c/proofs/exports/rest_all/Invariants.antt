-- The members so far have rested, and behind the others is what was there.
use Rattle.std.proofs.Common.{ℕ, ◌≡◌, ◌<◌, ◌≤◌, get_or, length}
use Rattle.std.specs.Prelude.{None}
use Rattle.tide_c.specs.Calls.{HasRested}
use Rattle.tide_c.specs.Handles.{values}
use Rattle.tide_c.specs.Statuses.{AsMember, Through}
use Rattle.tide_c.proofs.exports.rest_all.Given as goal

abbrev pub invariant-loop-at : goal.invariant-loop-at
invariant-loop-at l = record {
  long : length l.handles ≡ length l.fn.handles;
  rested : (i : ℕ) → i < l.at → (answer : ℕ) × Through (AsMember HasRested) (get_or (values l.fn.handles) i None)
      (get_or (values l.handles) i None) answer;
  later : (i : ℕ) → l.at ≤ i → get_or (values l.handles) i None ≡ get_or (values l.fn.handles) i None;
}
