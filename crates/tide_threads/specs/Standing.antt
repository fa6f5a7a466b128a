-- When a part may be opened on a heap that stands still.
use Rattle.std.specs.Prelude.{ℕ, ◌≡◌}
use Rattle.tide_heap.specs.tide_core.machine.Frozen.{MayOpen}
use Rattle.tide_heap.specs.tide_core.declared.machine.view.View.{View}
use Rattle.tide_model.specs.Layout.{Layout}
use Rattle.tide_table.specs.VisitsTold.{unentered}
use Rattle.tide_heap.specs.tide_words.heap.Heap.{heap_of}

-- A part of so many calls may be opened: no visits are left to enter, and visitors have work where a cycle marks.
pub record MayOpenPart (layout : Layout) (v : View) (run : ℕ) : Type 0 where
  pub entered : unentered v.visited ≡ 0
  pub may : MayOpen layout (heap_of layout v.words) run
