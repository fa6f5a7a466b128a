-- A cell with another group or other pairs has its links still.
use Rattle.std.proofs.Common.{ℕ, ◌≡◌, ◌<◌, refl, sym, ◌∙◌, ap, subst, List, length, inl}
use Rattle.tide_core.specs.machine.Scanning.{Place, slot, property}
use Rattle.tide_core.specs.machine.points.Arrays.{ArraysStand}
use Rattle.tide_core.specs.machine.points.Links.{LinkAt}
use Rattle.tide_core.proofs.machine_laws.steps.ArraysKept.{arrays_kept}
use Rattle.tide_words.specs.tide_layout.declared.region.Region.TheVariants as region
use Rattle.tide_model.proofs.ReferenceLaws.{put_at_elim}
use Rattle.tide_model.specs.Applied.{put_cell}
use Rattle.tide_model.specs.Layout.{Layout}
use Rattle.tide_model.specs.State.{State, CellState}
use Rattle.tide_model.specs.declared.val.Val.{Val}
use Rattle.tide_words.specs.heap.Heap.{Heap}

pub record SameLinks (one other : CellState) : Type 0 where
  pub status : one.status ≡ other.status
  pub keys : one.keys ≡ other.keys
  pub slots : one.slots ≡ other.slots
  pub properties : one.properties ≡ other.properties
  pub array : one.array ≡ other.array

module _ (state : State) (cell : ℕ) (held : CellState) (same : SameLinks held (state.cells cell)) where
  pub all_same : (x : ℕ) → SameLinks ((put_cell state cell held).cells x) (state.cells x)
  all_same = put_at_elim (λ x (h : CellState). SameLinks h (state.cells x)) state.cells cell held same
      (λ x apart. record { status = refl; keys = refl; slots = refl; properties = refl; array = refl })

  pub same_links : (x : ℕ) (place : Place) (target : ℕ) → LinkAt (put_cell state cell held) x place target →
      LinkAt state x place target
  same_links x place target = of_place place (all_same x)
    where
      of_place : (place : Place) → SameLinks ((put_cell state cell held).cells x) (state.cells x) →
          LinkAt (put_cell state cell held) x place target → LinkAt state x place target
      of_place (slot n) s (is_live, is) = (
        sym s.status ∙ is_live,
        ap (λ (f : ℕ → Val). f n) (sym s.slots) ∙ is,
      )
      of_place (property n) s (is_live, below, is) = (
        sym s.status ∙ is_live,
        subst (λ (keys : List ℕ). n < length keys) s.keys below,
        ap (λ (f : ℕ → Val). f n) (sym s.properties) ∙ is,
      )

  -- and its array says what it said
  pub same_arrays : (layout : Layout) (old new : Heap) →
      ((c : ℕ) → new region.Structure c ≡ old region.Structure c) →
      ((c : ℕ) → new region.Array c ≡ old region.Array c) →
      ((index : ℕ) → new region.Elements index ≡ old region.Elements index) →
      ArraysStand layout old state → ArraysStand layout new (put_cell state cell held)
  same_arrays layout old new structure array elements =
      arrays_kept layout old new state (put_cell state cell held) structure array elements (λ a. refl)
      (λ c a alive is. (
        sym (all_same c).status ∙ alive,
        (all_same c).keys,
        (all_same c).properties,
        (all_same c).array,
      )) (λ c alive none. inl (sym (all_same c).status ∙ alive))
