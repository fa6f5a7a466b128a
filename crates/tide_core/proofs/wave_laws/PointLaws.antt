-- How the points of the wave that speak of a cycle are kept by an entry that begins and ends none and is no birth.
use Rattle.std.proofs.Common.{ℕ, ◌≡◌, ◌+◌, ◌<◌, refl, sym, ◌∙◌, ap, arith, Bool, true, false, List, [], ◌∷◌, ◌++◌}
use Rattle.std.proofs.lemmas.List.Folds.{list_any-append}
use Rattle.std.specs.List.{list_any}
use Rattle.std.specs.Prelude.{◌&&◌, ◌||◌, not}
use Rattle.tide_words.specs.tide_layout.declared.region.Region.{Region}
use Rattle.tide_words.specs.tide_layout.declared.region.Region.TheVariants.{Base, Call as CallRegion, Colour, Period, Phase}
use Rattle.tide_model.specs.declared.entry.Event.{Event}
use Rattle.tide_model.specs.Cycle.{cycle_span}
use Rattle.tide_model.specs.Graph.{IsRetained, graph_of, retained_more}
use Rattle.tide_model.specs.History.{is_begin, state_after}
use Rattle.tide_model.specs.Layout.{Layout, cell_count}
use Rattle.tide_model.specs.Refused.{ShapeLists}
use Rattle.tide_model.specs.Old.{IsSpared, is_spared}
use Rattle.tide_model.specs.Since.{is_end, since, visits_in}
use Rattle.tide_model.proofs.CountLaws.{count_where-wider}
use Rattle.tide_model.proofs.NumberLaws.{count_where-same}
use Rattle.tide_model.proofs.OldLaws.{is_full-push, is_old-push, is_spared-push, last_full-kept}
use Rattle.tide_model.proofs.SinceLaws.{since-push, visits_since-push}
use Rattle.tide_model.proofs.Spans.{graph_in_cycle_span}
use Rattle.tide_words.specs.heap.Heap.{Heap, SameIn}
use Rattle.tide_words.specs.marking.Colours.{IsBlack, IsMarked, IsMarkedWithin, black_count, is_black, is_marking}
use Rattle.tide_words.proofs.marking_laws.ColourLaws.{is_black-same, is_marked-same, is_marking-same, running_cycle-same}
use Rattle.tide_words.proofs.marking_laws.MarkingLaws.{Marking-same}
use Rattle.tide_solver.specs.Traced.{IsReached}
use Rattle.tide_core.specs.wave.FrozenWave.{BlackIsCounted, BornIsMarked, FrozenWave, MarkedIsRetained, OldIsMarked, is_birth_of, is_born_in_cycle, is_of_visit}

-- the event begins no cycle and ends none, and no cell is born at it
pub record IsQuiet (event : Event) : Type 0 where
  pub goes_on : is_begin event.entry ≡ false
  pub no_end : is_end event.entry ≡ false
  pub no_birth : (cell : ℕ) → is_birth_of cell event.entry ≡ false

-- from one heap to the next no cell loses its mark, and so many more are black
pub record MarksGrow (layout : Layout) (old new : Heap) (visits : ℕ) : Type 0 where
  pub stays_marked : (cell : ℕ) → cell < cell_count layout → IsMarked old cell → IsMarked new cell
  pub stays_black : (cell : ℕ) → cell < cell_count layout → IsBlack old cell → IsBlack new cell
  pub blackened : black_count layout new ≡ black_count layout old + visits

-- so it is where the colours are the same
pub MarksGrow-same : (layout : Layout) (old new : Heap) → SameIn layout Base old new → SameIn layout Colour old new →
    MarksGrow layout old new 0
MarksGrow-same layout old new base colour = record {
  stays_marked = λ cell within marked. is_marked-same layout old new cell base colour within ∙ marked;
  stays_black = λ cell within black. is_black-same layout old new cell base colour within ∙ black;
  blackened =
      let same = count_where-same (is_black new) (is_black old) (cell_count layout)
      (λ cell within. is_black-same layout old new cell base colour within) in
      omega (arith, same);
}

-- What the state reaches from marked cells, the cycle retains.
pub reached-retained : (layout : Layout) (heap : Heap) (history : List Event) → MarkedIsRetained layout heap history →
    (cell : ℕ) → IsReached layout heap (state_after layout history) cell →
    IsRetained (cycle_span layout history) (IsSpared layout history) cell
reached-retained layout heap history retained =
    retained_more (graph_of (state_after layout history)) (cycle_span layout history)
    (IsMarkedWithin layout heap) (IsSpared layout history)
    (graph_in_cycle_span layout history) (λ cell marked. retained cell marked.0 marked.1)

-- the same cells were born in the cycle
pub born-push : (history : List Event) (event : Event) → IsQuiet event → (cell : ℕ) →
    is_born_in_cycle (history ++ event ∷ []) cell ≡ is_born_in_cycle history cell
born-push history event quiet cell =
    ap (list_any (λ e. is_birth_of cell e.entry)) (since-push is_begin history event quiet.goes_on)
    ∙ list_any-append (λ e. is_birth_of cell e.entry) (since is_begin history) (event ∷ [])
    ∙ ap (λ (born : Bool). is_born_in_cycle history cell || (born || false)) (quiet.no_birth cell)
    ∙ or_false (is_born_in_cycle history cell)
  where
    or_false : (b : Bool) → (b || false) ≡ b
    or_false true = refl
    or_false false = refl

-- and so a visit alone can have made the same cells black
of_visit-push : (layout : Layout) (history : List Event) (event : Event) → IsQuiet event → (cell : ℕ) →
    is_of_visit layout (history ++ event ∷ []) cell ≡ is_of_visit layout history cell
of_visit-push layout history event quiet cell =
    ap (λ (b : Bool). not b && not (is_spared layout (history ++ event ∷ []) cell)) (born-push history event quiet cell)
    ∙ ap (λ (b : Bool). not (is_born_in_cycle history cell) && not b)
    (is_spared-push layout history event quiet.goes_on quiet.no_end cell)

-- Old cells are still marked, but while a full cycle marks. Where no cycle marks, the entry may mark none.
pub OldIsMarked-push : (layout : Layout) (old new : Heap) (history : List Event) (event : Event) (visits : ℕ) →
    IsQuiet event → SameIn layout Phase old new → SameIn layout Base old new → MarksGrow layout old new visits →
    (is_marking old ≡ false → (cell : ℕ) → cell < cell_count layout → IsMarked new cell → IsMarked old cell) →
    OldIsMarked layout old history → OldIsMarked layout new (history ++ event ∷ [])
OldIsMarked-push layout old new history event visits quiet phase base grow marks_none was = record {
  old = λ eden cell within is. grow.stays_marked cell within (was.old
      (λ marks. sym (is_full-push layout history event quiet.goes_on quiet.no_end) ∙ eden (marking ∙ marks))
      cell within (sym (is_old-push layout history event quiet.no_end cell) ∙ is));
  rests = λ rests cell within marked. is_old-push layout history event quiet.no_end cell
      ∙ was.rests (sym marking ∙ rests) cell within (marks_none (sym marking ∙ rests) cell within marked);
  base = base 0 (omega arith) ∙ was.base ∙ sym (last_full-kept history event quiet.goes_on);
}
  where
    marking : is_marking new ≡ is_marking old
    marking = is_marking-same layout old new phase

-- each cell that was born in the cycle is still marked
pub BornIsMarked-push : (layout : Layout) (old new : Heap) (history : List Event) (event : Event) → IsQuiet event →
    MarksGrow layout old new (visits_in event.entry) → BornIsMarked layout old history →
    BornIsMarked layout new (history ++ event ∷ [])
BornIsMarked-push layout old new history event quiet grow marked cell within born =
    grow.stays_marked cell within (marked cell within (sym (born-push history event quiet cell) ∙ born))

-- and what was made black is counted by the entry
pub BlackIsCounted-push : (layout : Layout) (old new : Heap) (history : List Event) (event : Event) → IsQuiet event →
    MarksGrow layout old new (visits_in event.entry) → BlackIsCounted layout old history →
    BlackIsCounted layout new (history ++ event ∷ [])
BlackIsCounted-push layout old new history event quiet grow counted =
    let wider = count_where-wider (is_black old) (is_black new) (is_of_visit layout history)
    (cell_count layout) grow.stays_black in
    let blackened = grow.blackened in
    let same = count_where-same (λ cell. is_black new cell && is_of_visit layout (history ++ event ∷ []) cell)
    (λ cell. is_black new cell && is_of_visit layout history cell) (cell_count layout)
    (λ cell within. ap (λ (b : Bool). is_black new cell && b) (of_visit-push layout history event quiet cell)) in
    let visits = visits_since-push is_begin history event quiet.goes_on in
    omega (arith, counted, wider, blackened, same, visits)

-- The wave speaks of the words of the layout alone: it holds of any other heap that has the same ones.
pub FrozenWave-same : (layout : Layout) (shapes : ShapeLists) (old new : Heap) (history : List Event) →
    ((region : Region) → SameIn layout region old new) → FrozenWave layout shapes old history →
    FrozenWave layout shapes new history
FrozenWave-same layout shapes old new history same wave = record {
  marking = Marking-same layout shapes old new (state_after layout history) [] same wave.marking;
  cycle = running_cycle-same layout old new (same Phase) ∙ wave.cycle;
  period = same Period 0 (omega arith) ∙ wave.period;
  calls = λ who within. same CallRegion who within ∙ wave.calls who within;
  old = record {
    old = λ eden cell within is. is_marked-same layout old new cell (same Base) (same Colour) within
        ∙ wave.old.old (λ marks. eden (marking ∙ marks)) cell within is;
    rests = λ rests cell within marked. wave.old.rests (sym marking ∙ rests) cell within
        (sym (is_marked-same layout old new cell (same Base) (same Colour) within) ∙ marked);
    base = same Base 0 (omega arith) ∙ wave.old.base;
  };
  retained = λ marks cell within marked. wave.retained (before marks) cell within
      (sym (is_marked-same layout old new cell (same Base) (same Colour) within) ∙ marked);
  born = λ marks cell within born.
      is_marked-same layout old new cell (same Base) (same Colour) within ∙ wave.born (before marks) cell within born;
  counted = λ marks.
      let few = wave.counted (before marks) in
      let count = count_where-same (λ cell. is_black new cell && is_of_visit layout history cell)
      (λ cell. is_black old cell && is_of_visit layout history cell) (cell_count layout)
      (λ cell within. ap (λ (black : Bool). black && is_of_visit layout history cell)
      (is_black-same layout old new cell (same Base) (same Colour) within)) in
      omega (arith, few, count);
}
  where
    marking : is_marking new ≡ is_marking old
    marking = is_marking-same layout old new (same Phase)

    before : is_marking new ≡ true → is_marking old ≡ true
    before marks = sym marking ∙ marks
