-- The entries of the cells so far.
use Rattle.std.proofs.Common.{◌≡◌}
use Rattle.std.specs.List.{flat_map}
use Rattle.tide_retained.specs.Index.{key_entries, up_to}
use Rattle.tide_retained.proofs.index.key_entries.Given as goal

abbrev pub invariant-loop-table : goal.invariant-loop-table
invariant-loop-table l = l.entries.items ≡ flat_map (key_entries l.contents) (up_to l.table)
