-- What the pass of a mutator says.
use Rattle.std.specs.Prelude.{ℕ}
use Rattle.atomic_table.specs.Seated.{TableId}
use Rattle.tide_heap.specs.tide_core.declared.machine.view.View.{View}
use Rattle.tide_mutator.specs.declared.calls.mutator.Mutator.{Mutator}

-- what a mutator knows: of its part, of the history that it has seen, and of what it did
abbrev pub view_of : Mutator → View
view_of mutator = mutator.own.pass.seat.me.0

-- the table of words on which a mutator may step, a heap's
abbrev pub table_of : Mutator → TableId
table_of mutator = mutator.own.pass.seat.table_id

-- which of that table's participants a mutator is
abbrev pub seat_of : Mutator → ℕ
seat_of mutator = mutator.own.pass.seat.id
