-- All are ready of a heap that was just opened.
use Rattle.std.proofs.Common.{◌<◌, ◌∙◌, ap, arith, sym}
use Rattle.tide.proofs.Seats.{all_are_ready, ready_so}
use Rattle.tide_server.specs.tide_model.Layout.{Layout}
use Rattle.tide.proofs.host.open_with.Goals as goal

pub returns-clause-ready : goal.returns-clause-ready
returns-clause-ready c =
    let start = c.in_ok-start.start in
    let opened = c.in_ok-opened.opened in
    let did = c.in_ok-opened.ensures in
    let started = c.in_ok-start.ensures in
    let layout = start.heap.key.layout in
    let heap = start.heap.table.shared.table_id in
    let members = ap (λ (l : Layout). l.mutators) (started.made.0 ∙ c.layout.ensures) in
    let many = c.requires.within.some in
    let some : 0 < layout.mutators = omega (arith, members, many) in
    ready_so layout opened.standing.heap.key.layout heap opened.standing.heap.table.shared.table_id
    opened.standing.hands.shared.table_id opened.keeper opened.members.items opened.helpers.items
    (λ i. (sym did.heap i).key.layout) (λ i. (sym did.heap i).table.shared.table_id)
    (all_are_ready layout heap opened.standing.hands.shared.table_id opened.keeper opened.members.items
    opened.helpers.items start.collector.seat.me.0 _ did.opened started.started.period started.started.seen
    (did.stands some) did.members.0 did.members.1 did.helpers.1)
