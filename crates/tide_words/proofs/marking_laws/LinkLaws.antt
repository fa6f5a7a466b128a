-- How marking is kept where the colours stay, and the store holds something else.
use Rattle.std.proofs.Common.{ℕ, ◌≡◌, sym, ◌∙◌, arith, true, false, List, inl, inr}
use Rattle.std.specs.Prelude.{◌⊎◌}
use Rattle.tide_model.specs.Graph.{IsLink}
use Rattle.tide_model.specs.Layout.{Layout}
use Rattle.tide_model.specs.References.{IsLive, RefsAreLive}
use Rattle.tide_model.specs.Refused.{ShapeLists}
use Rattle.tide_model.specs.State.{State}
use Rattle.tide_words.specs.heap.Heap.{Heap}
use Rattle.tide_words.specs.heap.Reading.{ReadsAs}
use Rattle.tide_words.specs.marking.Colours.{IsBlack, is_black, is_marking}
use Rattle.tide_words.specs.marking.Marking.{Marking}
use Rattle.tide_words.proofs.heap_laws.ReadingLaws.{live_within}
use Rattle.tide_words.proofs.marking_laws.ColourLaws.{Counts-same, HasColours-same, is_black-same, is_marked-same, is_marking-same, running_cycle-same}
use Rattle.tide_words.proofs.marking_laws.MarkingLaws.{GreysAreHeld-colours, SameColours, link_ends, soon_kept}

-- Another state is read, whose references are live. It loses no live cell, and each link that is new is from a cell
-- that isn't black: marking is kept.
pub Marking-linked : (layout : Layout) (shapes : ShapeLists) (old new : Heap) (state after : State) (cells : List ℕ) →
    SameColours layout old new → ReadsAs layout shapes new after → RefsAreLive after →
    ((cell : ℕ) → IsLive state cell → IsLive after cell) →
    ((source cell : ℕ) → IsLink after source cell →
    IsLink state source cell ⊎ (is_black old source ≡ false)) →
    Marking layout shapes old state cells → Marking layout shapes new after cells
Marking-linked layout shapes old new state after cells same reads refs alive links before = record {
  reads = reads;
  references = refs;
  few_cycles = HasColours-same layout old new same.phase before.few_cycles;
  colours = λ cell within.
      let word = same.colour cell within in
      let cycle = running_cycle-same layout old new same.phase in
      let earlier = before.colours cell within in
      omega (arith, word, cycle, earlier);
  counts = λ marks. Counts-same layout old new same.phase same.base (before.counts (marked_before marks));
  soon = soon_kept layout old new same.phase same.base before.soon;
  held = GreysAreHeld-colours layout old new cells same before.held;
  black = λ source cell black link.
      let (source_alive, cell_alive) = link_ends after source cell refs link in
      let in_source = live_within layout shapes new after source reads source_alive in
      let in_cell = live_within layout shapes new after cell reads cell_alive in
      let was_black : IsBlack old source = sym (is_black-same layout old new source same.base same.colour in_source)
      ∙ black in
      elim (links source cell link) [
        | inl earlier ↦ is_marked-same layout old new cell same.base same.colour in_cell
            ∙ before.black source cell was_black earlier
        | inr not_black ↦ absurd (cc)
      ];
  live = λ cell within marked.
      alive cell (before.live cell within
      (sym (is_marked-same layout old new cell same.base same.colour within) ∙ marked));
}
  where
    marked_before : is_marking new ≡ true → is_marking old ≡ true
    marked_before marks = sym (is_marking-same layout old new same.phase) ∙ marks
