-- What is left for a visitor: a world that has the point, and near ones that break it; and which parts may be opened.
use Rattle.std.proofs.Common.{ℕ, ◌≡◌, ◌%◌, ◌/◌, refl, sym, ap, subst, arith, Bool, [], ◌∷◌, inl, inr}
use Rattle.std.proofs.lemmas.Bool.{cases_eq, ne_eqb}
use Rattle.std.proofs.lemmas.Nat.Bits.{bit_at-zero}
use Rattle.std.specs.Int.{bit_at}
use Rattle.std.specs.Prelude.{if◌then◌else◌, Contains}
use Rattle.tide_words.specs.tide_layout.declared.region.Region.TheVariants as region
use Rattle.tide_core.proofs.machine_laws.steps.Lists.{is_in_one, nothing_in}
use Rattle.tide_core.specs.machine.Frozen.{newcomer, MayOpen}
use Rattle.tide_core.specs.declared.machine.view.View.{View}
use Rattle.tide_core.specs.machine.points.Marks.{counted_in}
use Rattle.tide_core.specs.machine.points.Witness.{IsVisitor, shared_round, IsLeftFor, in_word, in_hand, GreyIsLeft}
use Rattle.tide_model.proofs.ReferenceLaws.{put_at_elim}
use Rattle.tide_model.specs.Layout.{Layout}
use Rattle.tide_model.specs.Numbers.{put_at}
use Rattle.tide_model.specs.Rows.{small}
use Rattle.tide_words.specs.heap.EmptyHeap.{empty_heap}
use Rattle.tide_words.specs.heap.Heap.{Heap, write}

-- a layout with one visitor, whose number is 16
abbrev visited : Layout
visited = record small { visitors = 1 }

-- a part is open in which a cycle marks, and cell 0 is grey
abbrev one_grey : Heap
one_grey = write (write (write empty_heap region.Phase 0 3) region.Period 0 1) region.Colour 0 6

abbrev shared_grey : Heap
shared_grey = write one_grey region.GreyShared 0 1

-- its bit stands in its shared word, and the visitor hasn't begun
left-unbegun : GreyIsLeft visited shared_grey newcomer
left-unbegun marks visitors none = record {
  cell = 0;
  within = omega arith;
  grey = refl;
  who = 16;
  is_visitor = (omega arith, omega arith);
  left = in_word refl (inl (λ e. omega (arith, e)));
}

-- no visitor of these has counted a visit
uncounted : (v : View) → counted_in 1 v ≡ 0 → (p : ℕ) → IsVisitor visited p → counted_in 1 (put_at newcomer 16 v p) ≡ 0
uncounted v none p is =
    put_at_elim (λ p u. counted_in 1 u ≡ 0) newcomer 16 v none (λ p apart. refl) p

-- the bit stands in the mutators' word instead
left-by_mutator : GreyIsLeft visited (write one_grey region.GreyMutator 0 1) newcomer → ⊥
left-by_mutator point = (let left = point refl (omega arith) (λ p is. refl) in by left.cell left.who left.left)
  where
    by : (cell p : ℕ) → IsLeftFor (write one_grey region.GreyMutator 0 1) (newcomer p) cell → ⊥
    by cell p (in_word bit how) = (let clear = bit_at-zero (cell % 64) in omega (arith, clear, bit))
    by cell p (in_hand has lacks) = nothing_in cell has

-- the visitor has begun, and has found the word 0 in its round
abbrev gone_round : View
gone_round = record (newcomer 16) { begun = 1; round = shared_round 0 ∷ [] }

left-gone_round : GreyIsLeft visited shared_grey (put_at newcomer 16 gone_round) → ⊥
left-gone_round point =
    let left = point refl (omega arith) (uncounted gone_round refl) in
    let its = left.is_visitor in
    let one : left.who ≡ 16 = omega (arith, its.0, its.1) in
    by left.cell (subst (λ (p : ℕ). IsLeftFor shared_grey (put_at newcomer 16 gone_round p) left.cell) one left.left)
  where
    by : (cell : ℕ) → IsLeftFor shared_grey (put_at newcomer 16 gone_round 16) cell → ⊥
    by cell (in_hand has lacks) = nothing_in cell has
    by cell (in_word bit (inl unbegun)) = unbegun refl
    by cell (in_word bit (inr lacks)) = elim (cases_eq (cell / 64) 0) [
      | inl same ↦ lacks (subst (λ (b : ℕ). Contains (shared_round 0 ∷ []) (shared_round b)) (sym same)
          (is_in_one (shared_round 0)))
      | inr apart ↦
          let word = ap (λ (b : Bool). bit_at (if b then 1 else 0) (cell % 64)) (ne_eqb (cell / 64) 0 apart) in
          let clear = bit_at-zero (cell % 64) in
          omega (arith, word, clear, bit)
    ]

-- with that visitor and a grey cell for it a part of 16 calls may be opened
opens-shared : MayOpen visited shared_grey 16
opens-shared marks visitors = (omega arith, (0, omega arith, refl))

-- but none of no calls, and none without a bit in a shared word
opens-no_calls : MayOpen visited shared_grey 0 → ⊥
opens-no_calls may = (let some = (may refl (omega arith)).0 in omega (arith, some))

opens-no_grey : MayOpen visited one_grey 16 → ⊥
opens-no_grey may =
    (let (cell, within, bit) = (may refl (omega arith)).1 in let clear = bit_at-zero (cell % 64) in
    omega (arith, clear, bit))
