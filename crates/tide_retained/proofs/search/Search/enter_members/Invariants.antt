-- Those so far were entered.
use Rattle.std.proofs.Common.{◌≡◌, take}
use Rattle.tide_retained.specs.Index.{items_of}
use Rattle.tide_retained.specs.Searching.{all_entered}
use Rattle.tide_retained.proofs.search.Search.enter_members.Given as goal

abbrev pub invariant-loop-member : goal.invariant-loop-member
invariant-loop-member l = l.self ≡ all_entered l.place l.initial.self (items_of (take l.member-index l.members))
