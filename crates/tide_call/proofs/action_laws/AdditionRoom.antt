-- Whether a cell's array has room for one more property.
use Rattle.std.proofs.Common.{ℕ, zero, suc, ◌≡◌, ◌<◌, refl, sym, ◌∙◌, ap, arith, true, None, length}
use Rattle.std.proofs.lemmas.Bool.{eq-eqb}
use Rattle.std.proofs.lemmas.Option.{none-some}
use Rattle.tide_model.specs.Applied.{is_array_full}
use Rattle.tide_model.specs.Layout.{Layout, capacity_of}
use Rattle.tide_model.specs.State.{CellState}
use Rattle.tide_words.specs.heap.Heap.{Heap}
use Rattle.tide_words.specs.heap.Reading.{PropertyReads}

-- a cell without an array has no properties, and so its array is full
pub full-none : (layout : Layout) (heap : Heap) (held : CellState) → held.array ≡ None →
    ((place : ℕ) → place < length held.keys → PropertyReads layout heap held place) → is_array_full held ≡ true
full-none layout heap held none properties = by_count (length held.keys) refl
  where
    by_count : (count : ℕ) → length held.keys ≡ count → is_array_full held ≡ true
    by_count zero is = eq-eqb (length held.keys) (capacity_of (length held.keys)) (is ∙ sym (ap capacity_of is))
    by_count (suc before) is = absurd (
        let (array, own, has, value) = properties before (omega (arith, is)) in
        none-some array (sym none ∙ own))
