-- What is left for the visitors is left still where grey cells stay grey, bits of shared words stay set, and no round
-- and no hand loses it.
use Rattle.std.proofs.Common.{ℕ, ◌≡◌, ◌<◌, ◌%◌, ◌==◌, refl, sym, ◌∙◌, ap, subst, true, List, inl, inr}
use Rattle.std.specs.Int.{bit_at}
use Rattle.std.specs.Prelude.{Contains, if◌then◌else◌}
use Rattle.tide_words.specs.tide_layout.declared.region.Region.TheVariants as region
use Rattle.tide_core.specs.declared.machine.view.Round.{Round}
use Rattle.tide_core.specs.declared.machine.view.View.{View}
use Rattle.tide_core.specs.machine.points.Marks.{counted_in}
use Rattle.tide_core.specs.machine.points.Witness.{IsVisitor, shared_round, IsLeftFor, in_word, in_hand, GreyIsLeft}
use Rattle.tide_model.proofs.ReferenceLaws.{put_at_elim}
use Rattle.tide_model.specs.Layout.{Layout, block_of_cell, cell_count}
use Rattle.tide_model.specs.Numbers.{put_at}
use Rattle.tide_words.specs.heap.Heap.{Heap}
use Rattle.tide_words.specs.marking.Colours.{is_marking, IsGrey}

-- the cell has its bit in its shared grey word
abbrev pub SharedBit : Heap → ℕ → Type 0
SharedBit heap cell = bit_at (heap region.GreyShared (block_of_cell cell)) (cell % 64) ≡ 1

-- what is left for a view, is left for one that has begun as it has, and has its round and its hand
pub left_same : (old new : Heap) (u v : View) (cell : ℕ) → new region.Period 0 ≡ old region.Period 0 →
    v.begun ≡ u.begun → v.round ≡ u.round → v.held ≡ u.held → (SharedBit old cell → SharedBit new cell) →
    IsLeftFor old u cell → IsLeftFor new v cell
left_same old new u v cell period begun round held shared (in_word bit how) = in_word (shared bit) (elim how [
  | inl apart ↦ inl (λ e. apart (sym begun ∙ e ∙ period))
  | inr lacks ↦ inr (λ at. lacks (subst (λ (l : List Round). Contains l (shared_round (block_of_cell cell))) round at))
])
left_same old new u v cell period begun round held shared (in_hand has lacks) =
    in_hand (subst (λ (l : List ℕ). Contains l cell) (sym held) has)
    (λ at. lacks (subst (λ (l : List Round). Contains l (shared_round (block_of_cell cell))) round at))

-- no visitor counts a blackening now, so none did
pub none_before : (layout : Layout) (old new : Heap) (part : ℕ → View) (me : ℕ) (w : View) →
    new region.Period 0 ≡ old region.Period 0 →
    (IsVisitor layout me → counted_in (old region.Period 0) w ≡ 0 → counted_in (old region.Period 0) (part me) ≡ 0) →
    ((p : ℕ) → IsVisitor layout p → counted_in (new region.Period 0) (put_at part me w p) ≡ 0) →
    (p : ℕ) → IsVisitor layout p → counted_in (old region.Period 0) (part p) ≡ 0
none_before layout old new part me w period counts none p is =
    put_at_elim (λ p u. IsVisitor layout p → counted_in (new region.Period 0) u ≡ 0 →
    counted_in (old region.Period 0) (part p) ≡ 0) part me w
    (λ is zero. counts is (ap (λ (n : ℕ). counted_in n w) (sym period) ∙ zero))
    (λ p apart is zero. ap (λ (n : ℕ). counted_in n (part p)) (sym period) ∙ zero) p is (none p is)

module _ (layout : Layout) (old new : Heap) (part : ℕ → View) (me : ℕ) (w : View)
    (phase : new region.Phase 0 ≡ old region.Phase 0) (period : new region.Period 0 ≡ old region.Period 0)
    (grey : is_marking old ≡ true → (cell : ℕ) → cell < cell_count layout → IsGrey old cell → IsGrey new cell)
    (shared : (cell : ℕ) → SharedBit old cell → SharedBit new cell) where
  marking : is_marking new ≡ is_marking old
  marking = ap (λ (word : ℕ). is_marking (λ at index. word)) phase

  pub left_kept : (IsVisitor layout me → counted_in (old region.Period 0) w ≡ 0 →
      counted_in (old region.Period 0) (part me) ≡ 0) →
      ((cell : ℕ) → IsLeftFor old (part me) cell → IsLeftFor new w cell) →
      GreyIsLeft layout old part → GreyIsLeft layout new (put_at part me w)
  left_kept counts mine waits marks visitors none =
      let left = waits (sym marking ∙ marks) visitors (none_before layout old new part me w period counts none) in
      record {
        cell = left.cell;
        within = left.within;
        grey = grey (sym marking ∙ marks) left.cell left.within left.grey;
        who = left.who;
        is_visitor = left.is_visitor;
        left = put_at_elim (λ p u. IsLeftFor old (part p) left.cell → IsLeftFor new u left.cell) part me w
            (mine left.cell)
            (λ p apart. left_same old new (part p) (part p) left.cell period refl refl refl (shared left.cell))
            left.who left.left;
      }

  -- the stepping view has begun, counted, gone round and taken in hand just what it had
  pub left_quiet : w.begun ≡ (part me).begun → w.visits ≡ (part me).visits → w.round ≡ (part me).round →
      w.held ≡ (part me).held → GreyIsLeft layout old part → GreyIsLeft layout new (put_at part me w)
  left_quiet begun visits round held = left_kept
      (λ is zero. ap (λ (n : ℕ). if n == old region.Period 0 then (part me).visits else 0) (sym begun)
      ∙ ap {B = ℕ} (λ (n : ℕ). if w.begun == old region.Period 0 then n else 0) (sym visits) ∙ zero)
      (λ cell. left_same old new (part me) w cell period begun round held (shared cell))
