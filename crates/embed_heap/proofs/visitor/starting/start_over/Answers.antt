-- The stack has a place for each cell.
use Rattle.std.proofs.Common.{ap, arith}
use Rattle.tide.specs.tide_model.Layout.{cell_count}
use Rattle.tide.specs.tide_words.marking.Greys.{Greys}
use Rattle.embed_heap.proofs.visitor.starting.start_over.Goals as goal

pub invariant_of-result-clause-room : goal.invariant_of-result-clause-room
invariant_of-result-clause-room c =
    let room = c.new-4.ensures.room in
    let cap = ap (λ (s : Greys). s.cap) c.in_ok-stack.ensures in
    let count = c.cells.ensures.count in
    let same = ap cell_count c.in_ok-heap.ensures.made.0 in
    omega (arith, room, cap, count, same)
