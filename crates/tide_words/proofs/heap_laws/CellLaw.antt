-- One cell changes: it reads anew, and the words of all others are the same.
use Rattle.std.proofs.Common.{ℕ, ◌≡◌, ◌≢◌, ◌<◌, ◌≤◌, sym, ◌∙◌, ap, arith, Some, length}
use Rattle.tide_model.specs.Applied.{put_cell}
use Rattle.tide_model.specs.Layout.{Layout, cell_count}
use Rattle.tide_model.specs.Numbers.{put_at}
use Rattle.tide_model.specs.Refused.{ShapeLists}
use Rattle.tide_model.specs.References.{IsLive}
use Rattle.tide_model.specs.State.{CellState, State, blank_cell, free, is_free, live}
use Rattle.tide_model.proofs.ReferenceLaws.{put_at_elim}
use Rattle.tide_layout.specs.declared.region.Region.TheVariants.{Claim, Dead, Free}
use Rattle.tide_words.specs.heap.Heap.{Heap, SameIn}
use Rattle.tide_words.specs.heap.Reading.{CellReads, IsNamedAmong, PartsRead, PropertyReads, ReadsAs, TakenReads, cell_status}
use Rattle.tide_words.proofs.heap_laws.ReadingLaws.{AreArraysRead-same, AreClaimsRead-same, BitsAreApart-same}
use Rattle.tide_words.proofs.heap_laws.CellReading.{CellReads-kept, SameCellWords}
use Rattle.tide_words.proofs.heap_laws.Parts.{RootsRead-same, SameRoots}

-- the array is named as before where the one cell that changes has the same status and array
pub named-put : (cells : ℕ → CellState) (cell : ℕ) (held : CellState) → held.status ≡ (cells cell).status → held.array ≡ (cells cell).array → (array : ℕ) →
    IsNamedAmong (put_at cells cell held) array → IsNamedAmong cells array
named-put cells cell held same_status same_array array (x, alive, has) =
    put_at_elim (λ n (h : CellState). h.status ≡ live → h.array ≡ Some array → IsNamedAmong cells array) cells cell held
    (λ is own. (cell, sym same_status ∙ is, sym same_array ∙ own)) (λ n apart is own. (n, is, own)) x alive has

pub named-before : (cells : ℕ → CellState) (cell : ℕ) (held : CellState) → held.status ≡ (cells cell).status → held.array ≡ (cells cell).array → (array : ℕ) →
    IsNamedAmong cells array → IsNamedAmong (put_at cells cell held) array
named-before cells cell held same_status same_array array (x, alive, has) = (
  x,
  put_at_elim (λ n (h : CellState). (cells n).status ≡ live → h.status ≡ live) cells cell held (λ is. same_status ∙ is) (λ n apart is. is) x alive,
  put_at_elim (λ n (h : CellState). (cells n).array ≡ Some array → h.array ≡ Some array) cells cell held (λ is. same_array ∙ is) (λ n apart is. is) x has,
)

-- no cell of the layout lies past its cells
pub past-put : (layout : Layout) (cells : ℕ → CellState) (cell : ℕ) (held : CellState) → cell < cell_count layout →
    ((x : ℕ) → cell_count layout ≤ x → cells x ≡ blank_cell free) → (x : ℕ) → cell_count layout ≤ x → put_at cells cell held x ≡ blank_cell free
past-put layout cells cell held within past =
    put_at_elim (λ n (h : CellState). cell_count layout ≤ n → h ≡ blank_cell free) cells cell held (λ above. absurd (omega (arith, above, within))) (λ n apart above. past n above)

module _ (layout : Layout) (shapes : ShapeLists) (old new : Heap) (state : State) (cell : ℕ) (held : CellState) (within : cell < cell_count layout)
    (roots : SameRoots layout old new) (same_claim : SameIn layout Claim old new) (same_free : SameIn layout Free old new) (same_dead : SameIn layout Dead old new)
    (others : (x : ℕ) → x < cell_count layout → x ≢ cell → SameCellWords layout old new x (state.cells x)) (reads : ReadsAs layout shapes old state) where
  -- the cell keeps its status and array
  pub ReadsAs-cell : held.status ≡ (state.cells cell).status → held.array ≡ (state.cells cell).array → CellReads layout shapes new cell held →
      ReadsAs layout shapes new (put_cell state cell held)
  ReadsAs-cell same_status same_array here = record {
    roots = RootsRead-same layout old new state roots reads.roots;
    parts = record {
      cells = put_at_elim (λ x (h : CellState). x < cell_count layout → CellReads layout shapes new x h) state.cells cell held (λ inside. here)
          (λ x apart inside. CellReads-kept layout shapes old new x (state.cells x) inside (others x inside apart) (parts.cells x inside));
      arrays = (let was = AreArraysRead-same layout old new state.cells state.arrays same_free same_dead parts.arrays in record {
        named = λ array inside is. was.named array inside (named-put state.cells cell held same_status same_array array is);
        unnamed = λ array inside isnt. was.unnamed array inside (λ is. isnt (named-before state.cells cell held same_status same_array array is));
      });
      claims = AreClaimsRead-same layout old new state.claims same_claim parts.claims;
      apart = BitsAreApart-same layout old new same_free same_dead parts.apart;
      past_cells = past-put layout state.cells cell held within parts.past_cells;
      past_arrays = parts.past_arrays;
      past_claims = parts.past_claims;
      claimed = parts.claimed;
    };
  }
    where
      parts : PartsRead layout shapes old state
      parts = reads.parts

-- what the words say of a live cell
pub live_reads : (layout : Layout) (shapes : ShapeLists) (heap : Heap) (state : State) (cell : ℕ) → ReadsAs layout shapes heap state → cell < cell_count layout →
    IsLive state cell → TakenReads layout shapes heap cell (state.cells cell)
live_reads layout shapes heap state cell reads within alive = (reads.parts.cells cell within).taken (ap is_free alive)

-- a live cell reads as this where its words do
pub CellReads-live : (layout : Layout) (shapes : ShapeLists) (heap : Heap) (cell : ℕ) (held : CellState) → held.status ≡ live → cell_status heap cell ≡ live →
    TakenReads layout shapes heap cell held → ((place : ℕ) → place < length held.keys → PropertyReads layout heap held place) → CellReads layout shapes heap cell held
CellReads-live layout shapes heap cell held alive is taken properties = record {
  status = alive ∙ sym is;
  zeroed = λ is_free. absurd (let bad = sym alive ∙ is_free in cc);
  taken = λ not_free. taken;
  properties = λ is_live. properties;
}
