-- Those of the tables so far.
use Rattle.std.proofs.Common.{◌≡◌, take, fold}
use Rattle.tide_retained.specs.Index.{items_of}
use Rattle.tide_retained.specs.Searching.{again_entered, IsSearch}
use Rattle.tide_retained.proofs.search.Search.enter_all_again.Given as goal

abbrev pub invariant-loop-table : goal.invariant-loop-table
invariant-loop-table l = record {
  same : l.self ≡ fold (again_entered l.contents) l.initial.self (items_of (take l.table-index l.tables));
  search : IsSearch l.contents l.self;
}
