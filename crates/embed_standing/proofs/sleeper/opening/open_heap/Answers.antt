-- Why a heap that was just opened may be played on.
use Rattle.std.proofs.Common.{◌≡◌, ◌∙◌, ◌<◌, ap, sym, arith}
use Rattle.embed_standing.proofs.Answered.{if_taken, taken}
use Rattle.embed_standing.proofs.Seats.{all_may_play}
use Rattle.tide.specs.tide_model.Layout.{Layout}
use Rattle.embed_standing.proofs.sleeper.opening.open_heap.Goals as goal

pub returns : goal.returns
returns c =
    let start = c.in_ok-start.start in
    let made = taken c.new-4.result _ start c.in_ok-start.ensures.value c.new-4.ensures.made in
    let is = made.0 ∙ c.new-layout.ensures.layout in
    let registers : start.heap.key.layout.registers ≡ 4 = ap (λ (l : Layout). l.registers) is in
    let strong : start.heap.key.layout.strong ≡ 2 = ap (λ (l : Layout). l.strong) is in
    let mutators : start.heap.key.layout.mutators ≡ 4 = ap (λ (l : Layout). l.mutators) is in
    let some : 0 < start.heap.key.layout.mutators = omega (arith, mutators) in
    record {
      opened = if_taken c.open.result c.ok-3.result c.ok-3.ensures.value (λ opened of.
          let same = taken c.open.result _ opened of c.open.ensures.heap in
          all_may_play start.heap.key.layout start.heap.table.shared.table_id
          opened.standing.hands.shared.table_id opened.standing.heap.key.layout
          opened.standing.heap.table.shared.table_id opened.keeper opened.members.items opened.helpers.items
          (λ i. (sym same i).key.layout) (λ i. (sym same i).table.shared.table_id)
          (record { registers = omega (arith, registers); strong = omega (arith, strong) })
          (taken c.open.result _ opened of c.open.ensures.stands some)
          (taken c.open.result _ opened of c.open.ensures.members).1
          (taken c.open.result _ opened of c.open.ensures.helpers).1);
    }
