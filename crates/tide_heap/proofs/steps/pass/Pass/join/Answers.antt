-- Why a participant may hear a ticket.
use Rattle.tide_heap.proofs.steps_laws.BeginsAndStops.{hears, zero_below}
use Rattle.tide_heap.proofs.steps.pass.Pass.join.Goals as goal

pub join_seat-requires : goal.join_seat-requires
join_seat-requires g c =
    let h = c.args.heap.now in
    let seat = c.args.self.now.seat in
    let layout = h.table.shared.key.layout in
    let shapes = g.S.HeapShapes.lists h.table.shared.key.shapes in
    let ticket = c.args.ticket in (
      c.requires.own,
      c.requires.of_heap,
      ticket.slotless,
      zero_below h.key.layout h.table.shared.table_id.words h.sized,
      hears layout shapes seat.id ticket.seat.id seat.me.0 ticket.seat.me.0 c.args.self.now.member c.requires.parked
          c.requires.stays ticket.kind c.requires.later,
    )
