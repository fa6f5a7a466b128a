-- The starts of regions that a layout keeps.
use Rattle.std.proofs.Common.{ℕ, ◌≡◌, ◌-◌, ◌≤◌, ◌++◌, inl, inr, refl, sym, ◌∙◌, ap, arith, List, length, get_or, take, sum, sum_by, map}
use Rattle.std.specs.Prelude.{slice_index, All}
use Rattle.std.specs.List.{range_with_len}
use Rattle.std.proofs.Math.ListN.{get_or-append}
use Rattle.std.proofs.lemmas.Bool.{cases_lt}
use Rattle.std.proofs.lemmas.List.{ext_get_or, get_or_past, get_or-append_right, take-map}
use Rattle.std.proofs.lemmas.List.FromFn.{get_or-map-range_with_len, length-map-range_with_len}
use Rattle.std.proofs.lemmas.List.Sums.{sum-map}
use Rattle.tide_model.specs.Layout.{Layout}
use Rattle.tide_layout.specs.declared.region.Region.{Region}
use Rattle.tide_layout.specs.Layout.{starts_of}
use Rattle.tide_layout.specs.Limits.{most_blocks, HasFewBlocks, IsWithinLimits}
use Rattle.tide_layout.specs.Region.{base_of, regions, room_of, tag, word_count}
use Rattle.tide_layout.proofs.LimitLaws.{word_count-few}
use Rattle.tide_layout.proofs.Places.{tag-below}

-- where a region begins
pub starts_of-base : (layout : Layout) (region : Region) → get_or (starts_of layout) (tag region) 0 ≡ base_of layout region
unfolding starts_of base_of
starts_of-base layout region =
    get_or-map-range_with_len (λ (count : ℕ). sum_by (room_of layout) (take count regions)) 0 23 (tag region) (tag region) 0
    (let below = tag-below region in omega (arith, below)) (omega arith)

-- where all regions end
pub starts_of-words : (layout : Layout) → get_or (starts_of layout) 22 0 ≡ word_count layout
unfolding starts_of word_count
starts_of-words layout =
    get_or-map-range_with_len (λ (count : ℕ). sum_by (room_of layout) (take count regions)) 0 23 22 22 0 (omega arith) (omega arith)

-- the rooms of all regions have few words together
pub sum-rooms : (layout : Layout) (rooms : List ℕ) → IsWithinLimits layout → rooms ≡ map (room_of layout) regions → sum rooms ≤ 3149272505
unfolding word_count
sum-rooms layout rooms limits is_rooms =
    let few : sum_by (room_of layout) regions ≤ 3149272505 = word_count-few layout limits in
    let all : sum rooms ≡ sum_by (room_of layout) regions = ap sum is_rooms ∙ sum-map (room_of layout) regions in
    omega (arith, few, all)

-- sums of the first rooms are the starts
pub starts_of-is : (layout : Layout) (rooms starts : List ℕ) → rooms ≡ map (room_of layout) regions → length starts ≡ 23 →
    ((k : ℕ) → k ≤ 22 → slice_index starts k ≡ sum (take k rooms)) → starts ≡ starts_of layout
unfolding starts_of
starts_of-is layout rooms starts is_rooms all each =
    let first : ℕ → ℕ = λ count. sum_by (room_of layout) (take count regions) in
    let many = length-map-range_with_len first 0 23 in
    ext_get_or 0 starts (map first (range_with_len 0 23)) (all ∙ sym many)
    (λ k h. each k (omega (arith, all))
    ∙ ap (λ (xs : List ℕ). sum (take k xs)) is_rooms ∙ ap sum (take-map (room_of layout) k regions) ∙ sum-map (room_of layout) (take k regions)
    ∙ sym (get_or-map-range_with_len first 0 23 k k 0 (omega (arith, all)) (omega arith)))

-- counts that are each small are few blocks
pub few_of_all : (blocks : List ℕ) → All (λ count. count ≤ 64) blocks → HasFewBlocks blocks
few_of_all blocks all class = elim (cases_lt class (length blocks)) [
  | inl within ↦ (let few = all class 0 within in omega (arith, few))
  | inr past ↦ (let none = get_or_past blocks class 0 past in omega (arith, none))
]

-- blocks of five and five classes that are in their limits
few_of_both : (blocks arrays : List ℕ) → HasFewBlocks blocks → HasFewBlocks arrays →
    (class : ℕ) → slice_index (blocks ++ arrays) class ≤ most_blocks
few_of_both blocks arrays few_blocks few_arrays class = elim (cases_lt class (length blocks)) [
  | inl front ↦ (let few = few_blocks class in let at = get_or-append blocks arrays 0 class front in omega (arith, few, at))
  | inr back ↦
      let at = get_or-append_right blocks arrays (length blocks) class 0 refl back in
      let few = few_arrays (class - length blocks) in
      omega (arith, few, at)
]

-- numbers that are each in its limit are within the limits
pub IsWithinLimits-each : (layout : Layout) → length layout.cell_blocks ≡ 5 → length layout.array_blocks ≡ 5 →
    HasFewBlocks layout.cell_blocks → HasFewBlocks layout.array_blocks →
    layout.registers ≤ 250 → layout.strong ≤ 65535 → layout.weak ≤ 65535 → layout.mutators ≤ 16 → layout.visitors ≤ 8 → IsWithinLimits layout
IsWithinLimits-each layout five_cells five_arrays few_blocks few_arrays registers strong weak mutators visitors = record {
  five_cell_classes = five_cells;
  five_array_classes = five_arrays;
  few_blocks = few_of_both layout.cell_blocks layout.array_blocks few_blocks few_arrays;
  few_registers = registers;
  few_strong = strong;
  few_weak = weak;
  few_mutators = mutators;
  few_visitors = visitors;
}
