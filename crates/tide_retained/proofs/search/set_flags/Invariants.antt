-- Those so far were set.
use Rattle.std.proofs.Common.{◌≡◌, take}
use Rattle.tide_retained.specs.Index.{items_of}
use Rattle.tide_retained.specs.Searching.{with_flags}
use Rattle.tide_retained.proofs.search.set_flags.Given as goal

abbrev pub invariant-loop-entry : goal.invariant-loop-entry
invariant-loop-entry l = l.flags ≡ with_flags l.initial.flags (items_of (take l.entry-index l.items))
