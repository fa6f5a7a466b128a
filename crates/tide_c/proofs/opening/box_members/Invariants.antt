-- Who came so far is in a box.
use Rattle.std.specs.Arc.{arc_value}
use Rattle.std.specs.List.{AllZip}
use Rattle.tide_c.specs.Opened.{HasSeat, parties_in}
use Rattle.tide_c.proofs.opening.box_members.Given as goal

abbrev pub invariant-loop-member : goal.invariant-loop-member
invariant-loop-member l = AllZip (HasSeat (arc_value l.shared).heap.key.layout (arc_value l.shared).heap.table.shared.table_id
    (arc_value l.shared).hands.shared.table_id l.base) l.yielded (parties_in l.boxes.items)
