-- Those so far were entered.
use Rattle.std.proofs.Common.{◌≡◌, take}
use Rattle.tide_retained.specs.Searching.{roots_entered}
use Rattle.tide_retained.proofs.search.Search.enter_roots.Given as goal

abbrev pub invariant-loop-rooted : goal.invariant-loop-rooted
invariant-loop-rooted l = l.self ≡ roots_entered l.initial.self (take l.rooted-index l.roots)
