-- The roots so far.
use Rattle.std.proofs.Common.{◌≡◌}
use Rattle.tide_model.specs.Refused.{ShapeLists}
use Rattle.tide_model.specs.State.{State}
use Rattle.tide_words.specs.heap.Heap.{heap_of}
use Rattle.tide_words.specs.heap.Reading.{ReadsAs}
use Rattle.tide_retained.specs.RootsRead.{AddsRoots, IsStrongRoot}
use Rattle.tide_retained.proofs.roots.push_handles.Given as goal

abbrev pub invariant-loop-handle : goal.invariant-loop-handle
invariant-loop-handle g l = record {
  adds : (shapes : ShapeLists) (state : State) → ReadsAs l.layout shapes (heap_of l.layout (g.W.Words.words l.fn.words)) state →
      AddsRoots (IsStrongRoot state l.handle) l.initial.roots.items l.roots.items;
  same : g.W.Words.words l.words ≡ g.W.Words.words l.fn.words;
  same_rest : g.W.Words.rest l.words ≡ g.W.Words.rest l.fn.words;
}
