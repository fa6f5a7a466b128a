-- The properties so far.
use Rattle.std.proofs.Common.{◌≡◌}
use Rattle.tide_words.specs.heap.Heap.{heap_of}
use Rattle.tide_retained.specs.Contents.{AreKeysOf}
use Rattle.tide_retained.specs.Holding.{ArePropertiesRead}
use Rattle.tide_retained.proofs.reading.read_properties.Given as goal

abbrev pub invariant-loop-place : goal.invariant-loop-place
invariant-loop-place g l = record {
  read : ArePropertiesRead l.layout (g.S.ShapeTable.lists l.shapes) (heap_of l.layout (g.W.Words.words l.fn.words)) l.cell l.place l.list.items;
  keys : AreKeysOf (g.S.ShapeTable.lists l.shapes) l.list.items;
  same : g.W.Words.words l.words ≡ g.W.Words.words l.fn.words;
  same_rest : g.W.Words.rest l.words ≡ g.W.Words.rest l.fn.words;
}
