-- The tickets of the first part.
use Rattle.std.proofs.Common.{ap, arith, sym, subst}
use Rattle.tide_posts.specs.Among.{times}
use Rattle.tide_posts.specs.Posts.{TicketTells}
use Rattle.tide_posts.specs.tide_heap.tide_core.declared.machine.view.View.{View}
use Rattle.tide_server.proofs.Tickets.{TicketTells-first}
use Rattle.tide_server.proofs.keeper.Keeper.open_first.Goals as goal

pub hand_out-requires-clause-running : goal.hand_out-requires-clause-running
hand_out-requires-clause-running g c = ap (λ (v : View). v.frozen) c.open_first.ensures.opened

pub hand_out-requires-clause-tells : goal.hand_out-requires-clause-tells
hand_out-requires-clause-tells g c =
    let key = c.args.standing.now.heap.key in
    subst (TicketTells key.layout) (sym c.open_first.ensures.opened)
    (TicketTells-first key.layout (g.S.HeapShapes.lists key.shapes) c.args.self.now.collector.seat.me.0 c.args.run
    c.requires.started c.requires.some)

pub hand_out-requires-clause-rounds : goal.hand_out-requires-clause-rounds
hand_out-requires-clause-rounds g c = λ place below isnt.
    let none = ap (times place) c.requires.none in
    let period = ap (λ (v : View). v.period) c.open_first.ensures.opened in
    let first = c.requires.started.period in
    omega (arith, none, period, first)

pub returns-clause-tickets : goal.returns-clause-tickets
returns-clause-tickets g c = λ place below.
    let grown = c.hand_out.ensures.tickets place below in
    let none = ap (times place) c.requires.none in
    omega (arith, grown, none)
