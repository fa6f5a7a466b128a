-- Those so far were entered.
use Rattle.std.proofs.Common.{◌≡◌, take}
use Rattle.tide_retained.specs.Contents.{cells_under}
use Rattle.tide_retained.specs.Searching.{all_entered}
use Rattle.tide_retained.proofs.search.Search.enter_properties.Given as goal

abbrev pub invariant-loop-property : goal.invariant-loop-property
invariant-loop-property l = l.self ≡ all_entered l.place l.initial.self (cells_under (take l.property-index l.properties))
