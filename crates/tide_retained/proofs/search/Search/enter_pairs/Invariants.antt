-- Those so far were entered.
use Rattle.std.proofs.Common.{◌≡◌, take}
use Rattle.tide_retained.specs.Searching.{pairs_entered}
use Rattle.tide_retained.proofs.search.Search.enter_pairs.Given as goal

abbrev pub invariant-loop-pair : goal.invariant-loop-pair
invariant-loop-pair l = l.self ≡ pairs_entered l.place l.initial.self (take l.pair-index l.pairs)
