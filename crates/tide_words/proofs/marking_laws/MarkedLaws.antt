-- Which cells are marked, by what the words read as.
use Rattle.std.proofs.Common.{ℕ, ◌≡◌, ◌<◌, ap, ◌∙◌, arith, List}
use Rattle.tide_model.specs.Layout.{Layout, cell_count}
use Rattle.tide_layout.specs.declared.region.Region.TheVariants.{Base, Colour}
use Rattle.tide_words.specs.forms.ColourWord.{is_marked_in}
use Rattle.tide_words.specs.heap.Heap.{Heap, Reads, heap_of}
use Rattle.tide_words.specs.marking.Marked.{is_marked}

-- a cell of the layout is marked in the words exactly where it is in the heap that they read as
pub is_marked-reads : (layout : Layout) (words : List ℕ) (heap : Heap) (cell : ℕ) → Reads layout words heap → cell < cell_count layout →
    is_marked (heap_of layout words) cell ≡ is_marked heap cell
is_marked-reads layout words heap cell reads within =
    ap (λ (base : ℕ). is_marked_in base (heap_of layout words Colour cell)) (reads.each Base 0 (omega arith))
    ∙ ap (λ (word : ℕ). is_marked_in (heap Base 0) word) (reads.each Colour cell within)
