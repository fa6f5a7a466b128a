-- Those so far were entered.
use Rattle.std.proofs.Common.{◌≡◌, take}
use Rattle.tide_retained.specs.Contents.{cells_in}
use Rattle.tide_retained.specs.Searching.{all_entered}
use Rattle.tide_retained.proofs.search.Search.enter_values.Given as goal

abbrev pub invariant-loop-value : goal.invariant-loop-value
invariant-loop-value l = l.self ≡ all_entered l.place l.initial.self (cells_in (take l.value-index l.values))
