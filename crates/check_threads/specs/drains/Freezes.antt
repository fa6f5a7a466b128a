-- What is known at a freeze in which a row's cycle begins.
use Rattle.std.specs.Prelude.{◌≡◌, true, length}
use Rattle.tide_heap.specs.tide_layout.Region.{word_count}
use Rattle.tide_heap.specs.tide_layout.declared.region.Region.TheVariants.{Stopped}
use Rattle.tide_heap.specs.tide_core.machine.Frozen.{FrozenWith}
use Rattle.tide_heap.specs.tide_core.declared.machine.view.View.{View}
use Rattle.tide_model.specs.Layout.{Layout}
use Rattle.tide_model.specs.Refused.{ShapeLists}
use Rattle.tide_table.specs.Blacks.{was_black_in}
use Rattle.tide_table.specs.VisitsTold.{unentered}
use Rattle.tide_heap.specs.tide_words.heap.Heap.{SameIn, heap_of}
use Rattle.tide_heap.specs.tide_words.marking.Colours.{is_black}

-- The collector's view at a freeze, whose words are those of its history: the cells that are black now are those that
-- were at the last entry, or where the freeze began, no visit is left to enter, and who stopped when stands as it did
-- when all had stopped.
pub record IsAtFreeze (layout : Layout) (shapes : ShapeLists) (v : View) : Type 0 where
  pub frozen : v.frozen ≡ true
  pub blacks : was_black_in layout v ≡ is_black (heap_of layout v.words)
  pub long : length v.words ≡ word_count layout
  pub wave : FrozenWith layout shapes (heap_of layout v.words) v.seen 0
  pub entered : unentered v.visited ≡ 0
  pub stopped : SameIn layout Stopped (heap_of layout v.stood) (heap_of layout v.words)
