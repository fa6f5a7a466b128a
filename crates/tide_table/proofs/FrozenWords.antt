-- The wave at a freeze speaks of the words of the layout alone.
use Rattle.std.proofs.Common.{ℕ, ◌≡◌, ◌≤◌, sym, ◌∙◌, ap, arith, Bool, true, List, []}
use Rattle.std.specs.Prelude.{◌&&◌}
use Rattle.tide_heap.specs.tide_core.wave.FrozenWave.{is_of_visit}
use Rattle.tide_heap.specs.tide_layout.declared.region.Region.{Region}
use Rattle.tide_heap.specs.tide_layout.declared.region.Region.TheVariants.{Base, Phase, Period, Colour, Call, Swept}
use Rattle.tide_heap.proofs.tide_core.machine_laws.steps.SweepsKept.{swept_kept, told_kept, is_taken}
use Rattle.tide_heap.specs.tide_core.machine.Frozen.{FrozenWith}
use Rattle.tide_model.proofs.NumberLaws.{count_where-same}
use Rattle.tide_model.specs.History.{state_after}
use Rattle.tide_model.specs.Layout.{Layout, cell_count}
use Rattle.tide_model.specs.Refused.{ShapeLists}
use Rattle.tide_model.specs.declared.entry.Event.{Event}
use Rattle.tide_heap.proofs.tide_words.marking_laws.ColourLaws.{is_marking-same, running_cycle-same, is_marked-same, is_black-same}
use Rattle.tide_heap.proofs.tide_words.marking_laws.MarkingLaws.{Marking-same}
use Rattle.tide_heap.specs.tide_words.heap.Heap.{Heap, SameIn, Reads, heap_of}
use Rattle.tide_heap.specs.tide_words.marking.Colours.{is_marking, is_black}

-- of any other heap that has the same words
pub FrozenWith-same : (layout : Layout) (shapes : ShapeLists) (old new : Heap) (history : List Event) (unentered : ℕ) →
    ((region : Region) → SameIn layout region old new) → FrozenWith layout shapes old history unentered →
    FrozenWith layout shapes new history unentered
FrozenWith-same layout shapes old new history unentered same wave = record {
  lawful = wave.lawful;
  span = record {
    roots = λ marks. wave.span.roots (before marks);
    links = λ marks. wave.span.links (before marks);
    triples = λ marks. wave.span.triples (before marks);
    group_mates = λ marks. wave.span.group_mates (before marks);
  };
  marking = Marking-same layout shapes old new (state_after layout history) [] same wave.marking;
  cycle = running_cycle-same layout old new (same Phase) ∙ wave.cycle;
  period = same Period 0 (omega arith) ∙ wave.period;
  calls = λ who within. same Call who within ∙ wave.calls who within;
  old = record {
    old = λ when cell within is. is_marked-same layout old new cell (same Base) (same Colour) within
        ∙ wave.old.old (λ marks. when (is_marking-same layout old new (same Phase) ∙ marks)) cell within is;
    rests = λ idle cell within marked. wave.old.rests (sym (is_marking-same layout old new (same Phase)) ∙ idle) cell within
        (sym (is_marked-same layout old new cell (same Base) (same Colour) within) ∙ marked);
    base = same Base 0 (omega arith) ∙ wave.old.base;
  };
  retained = λ marks cell within marked. wave.retained (before marks) cell within
      (sym (is_marked-same layout old new cell (same Base) (same Colour) within) ∙ marked);
  born = λ marks cell within born.
      is_marked-same layout old new cell (same Base) (same Colour) within ∙ wave.born (before marks) cell within born;
  counted = λ marks.
      let few = wave.counted (before marks) in
      let count = count_where-same (λ cell. is_black new cell && is_of_visit layout history cell)
      (λ cell. is_black old cell && is_of_visit layout history cell) (cell_count layout)
      (λ cell within. ap (λ (black : Bool). black && is_of_visit layout history cell)
      (is_black-same layout old new cell (same Base) (same Colour) within)) in
      omega (arith, few, count);
  swept = swept_kept layout old new (same Phase 0 (omega arith)) (same Swept) wave.swept;
  clean = λ block within taken has. wave.clean block within
      (is_taken old new block (same Phase 0 (omega arith)) (same Swept block within) taken) has;
  swept_told = told_kept layout old new history history (same Phase 0 (omega arith)) (same Swept)
      (λ block. (λ was. was, λ was. was)) wave.swept_told;
}
  where
    before : is_marking new ≡ true → is_marking old ≡ true
    before marks = sym (is_marking-same layout old new (same Phase)) ∙ marks

-- so it holds of the heap that the words read as, where it holds of one that they read as
pub FrozenWith-read : (layout : Layout) (shapes : ShapeLists) (words : List ℕ) (heap : Heap) (history : List Event)
    (unentered : ℕ) → Reads layout words heap → FrozenWith layout shapes heap history unentered →
    FrozenWith layout shapes (heap_of layout words) history unentered
FrozenWith-read layout shapes words heap history unentered reads =
    FrozenWith-same layout shapes heap (heap_of layout words) history unentered
    (λ region index within. reads.each region index within)

-- and where fewer visits are left to enter
pub FrozenWith-more : (layout : Layout) (shapes : ShapeLists) (heap : Heap) (history : List Event) (few more : ℕ) →
    few ≤ more → FrozenWith layout shapes heap history few → FrozenWith layout shapes heap history more
FrozenWith-more layout shapes heap history few more fewer wave = record {
  lawful = wave.lawful;
  span = wave.span;
  marking = wave.marking;
  cycle = wave.cycle;
  period = wave.period;
  calls = wave.calls;
  old = wave.old;
  retained = wave.retained;
  born = wave.born;
  counted = λ marks. (let c = wave.counted marks in omega (arith, c, fewer));
  swept = wave.swept;
  clean = wave.clean;
  swept_told = wave.swept_told;
}
