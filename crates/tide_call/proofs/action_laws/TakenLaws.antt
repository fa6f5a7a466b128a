-- What a bit that was taken of a class is.
use Rattle.std.proofs.Common.{ℕ, ◌≡◌, ◌+◌, ◌-◌, ◌*◌, ◌%◌, ◌<◌, ◌≤◌, sym, subst, ap, arith, sum}
use Rattle.tide_words.specs.tide_block.Bits.{IsSet}
use Rattle.tide_words.proofs.tide_block.ArrayLaws.{array_at_within, block_of_array-at, block_of_arrays, class_of_array-at, first_block_of-end}
use Rattle.tide_words.proofs.tide_block.BlockLaws.{first_block_of-next, first_block_of-rises}
use Rattle.tide_words.proofs.tide_block.PlaceLaws.{bit_of-at, block_of_cell-at, cell_at_within}
use Rattle.tide_words.proofs.tide_block.RisingLaws.{rising-le}
use Rattle.tide_words.specs.tide_layout.declared.region.Region.TheVariants.{Free}
use Rattle.tide_words.specs.tide_layout.Limits.{IsWithinLimits}
use Rattle.tide_words.specs.tide_layout.Region.{block_count}
use Rattle.tide_words.specs.tide_layout.Slots.{width_of_array, width_of_class}
use Rattle.tide_model.specs.Layout.{IsBlockOf, Layout, block_of_array, block_of_cell, first_block_of}
use Rattle.tide_words.specs.heap.Heap.{Heap}
use Rattle.tide_words.specs.heap.Written.{IsBitPut}
use Rattle.tide_call.specs.ActionWords.{IsFreeArrayIn, IsFreeCellIn}
use Rattle.tide_call.specs.Taken.{IsTakenOf}

-- a block of a class is one of the layout
pub class_block-within : (layout : Layout) (class block : ℕ) → IsWithinLimits layout → class < 10 → IsBlockOf layout class block → block < block_count layout
class_block-within layout class block limits few of =
    let rises = first_block_of-rises layout in
    let next = first_block_of-next layout class in
    let later = rising-le (first_block_of layout) rises (class + 1) 10 (omega (arith, few)) in
    let ends = first_block_of-end layout limits.five_cell_classes limits.five_array_classes in
    let below = of.below in
    omega (arith, next, later, ends, below)

module _ (layout : Layout) (old new : Heap) (class block bit : ℕ) (limits : IsWithinLimits layout) (taken : IsTakenOf layout old new class block bit) where
  -- of a class of cells: the cell was free
  pub taken-cell : class < 5 → IsFreeCellIn layout old class (64 * block + bit)
  taken-cell few =
      let at = block_of_cell-at block bit taken.of_word in record {
        within = cell_at_within layout class block bit limits.five_cell_classes few taken.of_class taken.of_word;
        of_class = subst (λ (b : ℕ). IsBlockOf layout class b) (sym at) taken.of_class;
        free_bit = subst (λ (b : ℕ). IsSet (old Free b) ((64 * block + bit) % 64)) (sym at)
            (subst (λ (k : ℕ). IsSet (old Free block) k) (sym (bit_of-at block bit taken.of_word)) taken.free_bit);
      }

  -- and its bit was cleared
  pub cleared-cell : IsBitPut layout old new Free (block_of_cell (64 * block + bit)) ((64 * block + bit) % 64) 0
  cleared-cell =
      subst (λ (b : ℕ). IsBitPut layout old new Free b ((64 * block + bit) % 64) 0) (sym (block_of_cell-at block bit taken.of_word))
      (subst (λ (k : ℕ). IsBitPut layout old new Free block k 0) (sym (bit_of-at block bit taken.of_word)) taken.put)

  -- the array of the bit
  abbrev pub array_at : ℕ
  array_at = 64 * (block - sum layout.cell_blocks) + bit

  module _ (large : 5 ≤ class) (few : class < 10) where
    past_cells : sum layout.cell_blocks ≤ block
    past_cells = (block_of_arrays layout class block limits.five_cell_classes limits.five_array_classes large few taken.of_class).0

    in_block : block_of_array layout array_at ≡ block
    in_block = block_of_array-at layout block bit past_cells taken.of_word

    at_bit : array_at % 64 ≡ bit
    at_bit = bit_of-at (block - sum layout.cell_blocks) bit taken.of_word

    -- of a class of arrays: the array was free
    pub taken-array : IsFreeArrayIn layout old class array_at
    taken-array = record {
      within = array_at_within layout class block bit limits.five_cell_classes limits.five_array_classes large few taken.of_class taken.of_word;
      of_class = subst (λ (b : ℕ). IsBlockOf layout class b) (sym in_block) taken.of_class;
      free_bit = subst (λ (b : ℕ). IsSet (old Free b) (array_at % 64)) (sym in_block)
          (subst (λ (k : ℕ). IsSet (old Free block) k) (sym at_bit) taken.free_bit);
    }

    -- and its bit was cleared
    pub cleared-array : IsBitPut layout old new Free (block_of_array layout array_at) (array_at % 64) 0
    cleared-array =
        subst (λ (b : ℕ). IsBitPut layout old new Free b (array_at % 64) 0) (sym in_block)
        (subst (λ (k : ℕ). IsBitPut layout old new Free block k 0) (sym at_bit) taken.put)

    -- it is as wide as its class
    pub wide-array : width_of_array layout array_at ≡ width_of_class class
    wide-array = ap width_of_class (class_of_array-at layout class block bit limits.five_cell_classes large few taken.of_class taken.of_word)
