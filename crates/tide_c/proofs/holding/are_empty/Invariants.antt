-- The handles so far are empty, and behind all is what was there.
use Rattle.std.proofs.Common.{ℕ, ◌≡◌, ◌<◌, get_or}
use Rattle.std.specs.Prelude.{None}
use Rattle.tide_c.specs.Handles.{values}
use Rattle.tide_c.proofs.holding.are_empty.Given as goal

abbrev pub invariant-loop-at : goal.invariant-loop-at
invariant-loop-at l = record {
  same : values l.handles ≡ values l.fn.handles;
  empty : (k : ℕ) → k < l.at → get_or (values l.fn.handles) k None ≡ None;
}
