-- What a contract sees of a realm.
use Rattle.std.specs.Prelude.{ℕ}
use Rattle.atomic_table.specs.Seated.{TableId}
use Rattle.tide_heap.specs.tide_core.declared.machine.view.View.{View}
use Rattle.tide_mutator.specs.calls.Viewed as works
use Rattle.tide_weakref.specs.Jobs.{Jobs}
use Rattle.tide_weakref.specs.declared.realm.Realm.{Realm}

-- what its mutator knows: of its part, of the history that it has seen, and of what it did
abbrev pub view_of : Realm → View
view_of realm = works.view_of realm.mutator

-- the table of words on which its mutator may step, a heap's
abbrev pub table_of : Realm → TableId
table_of realm = works.table_of realm.mutator

-- which of that table's participants its mutator is
abbrev pub seat_of : Realm → ℕ
seat_of realm = works.seat_of realm.mutator

-- what it has
abbrev pub jobs_of : Realm → Jobs
jobs_of realm = record {
  scratch = realm.scratch;
  strong = realm.kept.handles;
  weak = realm.weaks.handles;
  uses = realm.weaks.uses.items;
  cells = realm.kept.cells.items;
}
