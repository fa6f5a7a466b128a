-- Why a heap that was just opened may be played on.
use Rattle.std.proofs.Common.{◌≡◌, ◌∙◌, ◌<◌, ap, sym, arith}
use Rattle.embed_standing.proofs.Seats.{all_may_play}
use Rattle.tide.specs.tide_model.Layout.{Layout}
use Rattle.embed_standing.proofs.showing.open_heap.Goals as goal

pub returns-clause-opened : goal.returns-clause-opened
returns-clause-opened c =
    let start = c.in_ok-start.start in
    let made = c.in_ok-open.field-0 in
    let did = c.in_ok-open.ensures in
    let is = c.in_ok-start.ensures.made.0 ∙ c.new-layout.ensures.layout in
    let registers : start.heap.key.layout.registers ≡ 4 = ap (λ (l : Layout). l.registers) is in
    let strong : start.heap.key.layout.strong ≡ 2 = ap (λ (l : Layout). l.strong) is in
    let mutators : start.heap.key.layout.mutators ≡ 2 = ap (λ (l : Layout). l.mutators) is in
    let some : 0 < start.heap.key.layout.mutators = omega (arith, mutators) in
    all_may_play start.heap.key.layout start.heap.table.shared.table_id made.standing.hands.shared.table_id
    made.standing.heap.key.layout made.standing.heap.table.shared.table_id made.keeper made.members.items
    made.helpers.items (λ i. (sym did.heap i).key.layout) (λ i. (sym did.heap i).table.shared.table_id)
    (record { registers = omega (arith, registers); strong = omega (arith, strong) }) (did.stands some) did.members.1
    did.helpers.1
