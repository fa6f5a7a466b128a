-- Why a participant may begin.
use Rattle.tide_heap.proofs.steps_laws.BeginsAndStops.{begins, zero_below}
use Rattle.tide_heap.proofs.steps.pass.Pass.activate.Goals as goal

pub load-period-requires : goal.load-period-requires
load-period-requires g c =
    let h = c.args.heap.now in
    let seat = c.args.self.now.seat in
    let layout = h.table.shared.key.layout in
    let shapes = g.S.HeapShapes.lists h.table.shared.key.shapes in (
      c.requires.own,
      zero_below h.key.layout h.table.shared.table_id.words h.sized,
      begins layout shapes h.table.shared.table_id.slots seat.id seat.me c.args.self.now.member c.requires.parked
          c.requires.stays c.requires.later,
    )
