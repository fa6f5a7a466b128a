-- The values of the slots so far.
use Rattle.std.proofs.Common.{◌≡◌}
use Rattle.tide_words.specs.heap.Heap.{heap_of}
use Rattle.tide_retained.specs.Holding.{AreSlotsRead}
use Rattle.tide_retained.proofs.reading.read_slots.Given as goal

abbrev pub invariant-loop-slot : goal.invariant-loop-slot
invariant-loop-slot g l = record {
  read : AreSlotsRead l.layout (heap_of l.layout (g.W.Words.words l.fn.words)) l.cell l.slot l.values.items;
  same : g.W.Words.words l.words ≡ g.W.Words.words l.fn.words;
  same_rest : g.W.Words.rest l.words ≡ g.W.Words.rest l.fn.words;
}
