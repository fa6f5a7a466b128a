-- How marking begins.
use Rattle.std.proofs.Common.{ℕ, ◌≡◌, ◌%◌, ◌==◌, ap, arith, List, [], length, Contains}
use Rattle.std.specs.List.{IsDistinct}
use Rattle.std.specs.Prelude.{slice_set}
use Rattle.tide_model.specs.Layout.{Layout, cell_count}
use Rattle.tide_layout.specs.declared.region.Region.TheVariants.{Phase}
use Rattle.tide_words.specs.heap.Heap.{heap_of}
use Rattle.tide_layout.specs.Region.{place_in, word_count}
use Rattle.tide_words.proofs.heap_laws.ReadingLaws.{heap_of-stored}
use Rattle.tide_words.proofs.heap_laws.HeapLaws.{Reads-heap_of, reads_write}
use Rattle.tide_solver.specs.Traced.{AreGreys, IsUnderway}

-- a list without cells holds grey ones alone
AreGreys-none : (layout : Layout) (words : List ℕ) → AreGreys layout (heap_of layout words) []
unfolding IsDistinct
AreGreys-none layout words = record {
  once = tt;
  of_layout = λ cell at. absurd (nothing cell at);
  are_grey = λ cell at. absurd (nothing cell at);
}
  where
    nothing : (cell : ℕ) → Contains [] cell → ⊥
    nothing cell at = let below = at.1 in omega (arith, below)

-- once the first cycle's phase word is stored, marking is under way with an empty list for all cells
pub IsUnderway-first : (layout : Layout) (words : List ℕ) → length words ≡ word_count layout →
    IsUnderway layout (slice_set words (place_in layout Phase 0) 3) (record { cells = []; cap = cell_count layout })
IsUnderway-first layout words all = record {
  heap = record {
    all_words = (reads_write layout words (heap_of layout words) Phase 0 3 (Reads-heap_of layout words all) (omega arith)).all_words;
    marks = ap (λ (word : ℕ). word % 2 == 1) phase;
  };
  room = omega arith;
  greys = AreGreys-none layout (slice_set words (place_in layout Phase 0) 3);
}
  where
    phase : heap_of layout (slice_set words (place_in layout Phase 0) 3) Phase 0 ≡ 3
    phase = heap_of-stored layout words Phase 0 3 all (omega arith) Phase 0 (omega arith)
