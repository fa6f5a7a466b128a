-- A cell that an end keeps for an earlier moment's sake holds another, which that end may not free.
use Rattle.std.specs.Prelude.{ℕ, ◌≡◌, ◌⊎◌, refl, true, false, List, [], ◌∷◌, ◌++◌, take, None}
use Rattle.std.proofs.Common.{arith, inl, inr, subst, sym, lit<, lit≤}
use Rattle.tide_model.specs.declared.val.Val.TheVariants.{Empty, Cell}
use Rattle.tide_model.specs.declared.op.Op.{Op}
use Rattle.tide_model.specs.declared.op.Op.TheVariants.{Alloc, Put, Drop, WeakSet}
use Rattle.tide_model.specs.declared.op.Reply.{Reply}
use Rattle.tide_model.specs.declared.op.Reply.TheVariants.{Done, Born, Refused}
use Rattle.tide_model.specs.declared.op.Refusal.TheVariants.{Full}
use Rattle.tide_model.specs.declared.entry.Entry.TheVariants.{Call, Begin, Pause, End}
use Rattle.tide_model.specs.declared.entry.Event.{Event}
use Rattle.tide_model.specs.Layout.{IsBlockOf}
use Rattle.tide_model.specs.Numbers.{put_at}
use Rattle.tide_model.specs.State.{CellState, live, free, blank_cell}
use Rattle.tide_model.specs.Graph.{IsRetained, is_root, in_register, in_slot}
use Rattle.tide_model.specs.History.{plain, state_after}
use Rattle.tide_model.specs.Cycle.{StandsEnd, cycle_span}
use Rattle.tide_model.specs.Lawful.{FitsLayout, IsLawful}
use Rattle.tide_model.specs.Answer.{IsAnswer}
use Rattle.tide_model.specs.Old.{IsSpared}
use Rattle.tide_model.specs.Refused.{no_shapes}
use Rattle.tide_model.specs.Rows.{small}
use Rattle.tide_model.proofs.Histories.{IsLawful-nil, IsLawful-push}
use Rattle.tide_model.proofs.LawfulReferences.{RefsAreLive-lawful}
use Rattle.tide_model.proofs.NumberLaws.{put_at_elim}
use Rattle.tide_model.proofs.PeriodTests.{IsSwept-tested}
use Rattle.tide_model.proofs.Retained.{IsClosed-all_kept}

-- cell 0 holds cell 1, and a weak handle names cell 0
abbrev linked : List Event
linked =
    plain (Call 0 (Alloc 0 0) (Born 0)) ∷ plain (Call 0 (Alloc 1 0) (Born 1))
    ∷ plain (Call 0 (Put 0 0 1) Done) ∷ plain (Call 0 (WeakSet 0 0) Done) ∷ []

-- a cycle begins while registers hold both cells, and at its end none does
abbrev before_end : List Event
before_end =
    linked ++ plain (Begin 1 true) ∷ plain (Call 0 (Drop 0) Done) ∷ plain (Call 0 (Drop 1) Done) ∷ plain (Pause 0) ∷ []

-- nothing retains cell 1 any more, and cell 0 was retained in the cycle, yet an end may not free the one and keep the
-- other: the weak handle would lead to cell 0, and that to cell 1
pub held_cell_is_not_freed : StandsEnd small before_end 1 (1 ∷ []) → ⊥
held_cell_is_not_freed ends = (ends.closed.links 0 1 (record { is_live = refl; not_freed = λ among. absurd (cc) }) (in_slot 0 refl refl)).not_freed refl

-- so no history that goes on behind such an end is lawful
pub dangling_is_not_lawful : (rest : List Event) → IsLawful small no_shapes (before_end ++ plain (End 1 (1 ∷ [])) ∷ rest) → ⊥
dangling_is_not_lawful rest lawful = held_cell_is_not_freed (lawful 8 (plain (End 1 (1 ∷ []))) refl).1

-- a call of mutator 0 that is not refused for room
pub calls : (before : List Event) (op : Op) (reply : Reply) → IsLawful small no_shapes before → (state_after small before).active 0 ≡ true → FitsLayout small op →
    IsAnswer small no_shapes (state_after small before) 0 op reply None → ((class : ℕ) → reply ≡ Refused (Full class) → ⊥) →
    IsLawful small no_shapes (before ++ plain (Call 0 op reply) ∷ [])
calls before op reply lawful active fits answers has_room = IsLawful-push small no_shapes before (plain (Call 0 op reply)) lawful (record {
  is_mutator = lit< tt;
  is_active = active;
  fits = fits;
  answers = answers;
  room = λ class is. absurd (has_room class is);
})

-- up to the end the history is lawful
before_end_is_lawful : IsLawful small no_shapes before_end
before_end_is_lawful =
    let none = IsLawful-nil small no_shapes in
    let one = calls [] (Alloc 0 0) (Born 0) none refl (lit< tt, lit< tt) (refl, record { of_class = in_block; is_free = refl }) (λ class is. cc) in
    let two = calls (take 1 before_end) (Alloc 1 0) (Born 1) one refl (lit< tt, lit< tt) (refl, record { of_class = in_block; is_free = refl }) (λ class is. cc) in
    let holds = calls (take 2 before_end) (Put 0 0 1) Done two refl (lit< tt, lit< tt) refl (λ class is. cc) in
    let named = calls (take 3 before_end) (WeakSet 0 0) Done holds refl (lit< tt, lit< tt) refl (λ class is. cc) in
    let begun = IsLawful-push small no_shapes (take 4 before_end) (plain (Begin 1 true)) named (refl, record { is_idle = refl; is_swept = IsSwept-tested small (take 4 before_end) refl; is_next = refl }) in
    let dropped = calls (take 5 before_end) (Drop 0) Done begun refl (lit< tt) refl (λ class is. cc) in
    let all_dropped = calls (take 6 before_end) (Drop 1) Done dropped refl (lit< tt) refl (λ class is. cc) in
    IsLawful-push small no_shapes (take 7 before_end) (plain (Pause 0)) all_dropped refl
  where
    in_block : IsBlockOf small 0 0
    in_block = record { from = lit≤ tt; below = lit< tt }

-- the live cells are these two
live_cells : (cell : ℕ) → ((state_after small before_end).cells cell).status ≡ live → (cell ≡ 0) ⊎ (cell ≡ 1)
live_cells =
    put_at_elim Is both 0 (record (blank_cell live) { slots = put_at (λ _. Empty) 0 (Cell 1) }) (λ _. inl refl)
    (λ n _. put_at_elim Is first 1 (blank_cell live) (λ _. inr refl)
    (λ m _. put_at_elim Is (λ _. blank_cell free) 0 (blank_cell live) (λ _. inl refl) (λ k _ is. absurd (cc)) m) n)
  where
    first : ℕ → CellState
    first = put_at (λ _. blank_cell free) 0 (blank_cell live)

    both : ℕ → CellState
    both = put_at first 1 (blank_cell live)

    Is : ℕ → CellState → Type 0
    Is cell held = held.status ≡ live → (cell ≡ 0) ⊎ (cell ≡ 1)

-- an end may keep both, since registers held them in the cycle
pub both_are_kept : StandsEnd small before_end 1 []
both_are_kept = record {
  marks = refl;
  rising = λ k below. absurd (omega (arith, below));
  were_live = λ cell among. absurd (cc);
  frees = λ cell among. absurd (cc);
  keeps = λ cell alive _. held cell (live_cells cell alive);
  closed = IsClosed-all_kept (state_after small before_end) (IsSpared small before_end) (RefsAreLive-lawful small no_shapes before_end before_end_is_lawful)
      (λ cell spared. absurd (let eden : false ≡ true = spared in cc));
}
  where
    IsHeld : ℕ → Type 0
    IsHeld cell = IsRetained (cycle_span small before_end) (IsSpared small before_end) cell

    held : (cell : ℕ) → (cell ≡ 0) ⊎ (cell ≡ 1) → IsHeld cell
    held cell (inl is) = subst IsHeld (sym is) (is_root 0 (5, lit≤ tt, lit≤ tt, in_register 0 0 refl refl))
    held cell (inr is) = subst IsHeld (sym is) (is_root 1 (5, lit≤ tt, lit≤ tt, in_register 0 1 refl refl))
