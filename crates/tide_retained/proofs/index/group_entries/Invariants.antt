-- The entries of the cells so far.
use Rattle.std.proofs.Common.{◌≡◌}
use Rattle.std.specs.List.{flat_map}
use Rattle.tide_retained.specs.Index.{group_entries, up_to}
use Rattle.tide_retained.proofs.index.group_entries.Given as goal

abbrev pub invariant-loop-cell : goal.invariant-loop-cell
invariant-loop-cell l = l.entries.items ≡ flat_map (group_entries l.contents) (up_to l.cell)
