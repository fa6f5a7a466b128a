-- The empty heap meets marking.
use Rattle.std.proofs.Common.{◌%◌, arith, []}
use Rattle.std.proofs.lemmas.Nat.Bits.{bit_at-zero}
use Rattle.tide_model.specs.Layout.{Layout}
use Rattle.tide_model.specs.Refused.{ShapeLists}
use Rattle.tide_model.specs.State.{empty_state}
use Rattle.tide_model.proofs.ReferenceLaws.{RefsAreLive-empty}
use Rattle.tide_words.specs.heap.EmptyHeap.{empty_heap}
use Rattle.tide_words.specs.marking.Marking.{Marking}
use Rattle.tide_words.proofs.heap_laws.EmptyReading.{nothing_in, ReadsAs-empty}

-- the empty heap reads as the empty state and meets marking, with no grey cell
pub Marking-empty : (layout : Layout) (shapes : ShapeLists) → Marking layout shapes empty_heap empty_state []
Marking-empty layout shapes = record {
  reads = ReadsAs-empty layout shapes;
  references = RefsAreLive-empty;
  few_cycles = omega arith;
  colours = λ cell within. omega arith;
  counts = λ marks. absurd (cc);
  soon = omega arith;
  held = record {
    each_once = λ cell within. (let none = bit_at-zero (cell % 64) in omega (arith, none));
    of_layout = λ cell at. absurd (nothing_in cell at);
  };
  black = λ source cell black. absurd (cc);
  live = λ cell within marked. absurd (cc);
}
