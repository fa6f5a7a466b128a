-- The books go with the history still once there is room in the report.
use Rattle.std.proofs.Common.{sym, subst, List}
use Rattle.check_table.specs.Standing.{opened_once}
use Rattle.tide_heap.specs.tide_freeze.Books.{AreBooks}
use Rattle.tide_model.specs.declared.entry.Event.{Event}
use Rattle.check_table.proofs.freezing.freeze_twice.Goals as goal

pub freeze-nothing_due-requires-clause-books : goal.freeze-nothing_due-requires-clause-books
freeze-nothing_due-requires-clause-books c =
    subst (λ (h : List Event). AreBooks c.args.layout.now h c.make_room.new.self) (sym c.requires.stands.seen)
    (c.make_room.ensures.kept (opened_once 5) c.requires.books).are
