-- What a whole cycle leaves, and what its span has.
use Rattle.std.proofs.Common.{ℕ, ◌≡◌, ◌≤◌, refl, sym, ◌∙◌, ap, subst, arith, Bool, true, false, List, [], ◌∷◌, length, take}
use Rattle.std.specs.Prelude.{◌==◌, ◌||◌, if◌then◌else◌, map}
use Rattle.tide_model.specs.declared.entry.Entry.TheVariants.{Sweep}
use Rattle.tide_model.specs.declared.entry.Event.{Event}
use Rattle.tide_model.specs.Layout.{Layout, block_of_cell, block_of_array}
use Rattle.tide_model.specs.Numbers.{is_among}
use Rattle.tide_model.specs.State.{State, Phase, CellState, Status, free, live, spent, dead, is_dead, blank_cell}
use Rattle.tide_model.specs.Graph.{IsRoot, in_register, claimed, in_handle, IsLink, in_slot, in_property, IsTriple, AreGroupMates, graph_of, IsWithin}
use Rattle.tide_model.specs.History.{plain, after_sweep, swept_cell, swept_status, state_from, state_after}
use Rattle.tide_model.specs.Cycle.{span_of}

swept_status-twice : (x y : Bool) (status : Status) → swept_status y (swept_status x status) ≡ swept_status (x || y) status
swept_status-twice false y status = refl
swept_status-twice true false status = refl
swept_status-twice true true free = refl
swept_status-twice true true live = refl
swept_status-twice true true spent = refl
swept_status-twice true true dead = refl

swept_cell-twice : (x y : Bool) (cell : CellState) → swept_cell y (swept_cell x cell) ≡ swept_cell (x || y) cell
swept_cell-twice false y cell = refl
swept_cell-twice true false cell = refl
swept_cell-twice true true cell = step (is_dead cell.status) refl
  where
    step : (is : Bool) → is_dead cell.status ≡ is → swept_cell true (if is then blank_cell free else cell) ≡ (if is then blank_cell free else cell)
    step true e = refl
    step false e = ap (λ (d : Bool). if d then blank_cell free else cell) e

-- sweeping some blocks frees what was dead in each
pub state_from-sweeps : (layout : Layout) (state : State) (blocks : List ℕ) →
    state_from layout state (map (λ block. plain (Sweep block)) blocks)
    ≡ record state {
      cells = λ cell. swept_cell (is_among blocks (block_of_cell cell)) (state.cells cell);
      arrays = λ array. swept_status (is_among blocks (block_of_array layout array)) (state.arrays array);
    }
state_from-sweeps layout state [] = refl
state_from-sweeps layout state (block ∷ blocks) =
    state_from-sweeps layout (after_sweep layout state block) blocks
    ∙ (λ i. record state {
      cells = λ cell. swept_cell-twice (block_of_cell cell == block) (is_among blocks (block_of_cell cell)) (state.cells cell) i;
      arrays = λ array. swept_status-twice (block_of_array layout array == block) (is_among blocks (block_of_array layout array)) (state.arrays array) i;
    })

-- the graph doesn't depend on the phase
pub phase_within : (state : State) (phase : Phase) → IsWithin (graph_of (record state { phase = phase })) (graph_of state)
phase_within state phase = record {
  roots = λ cell root. elim root [
    | in_register who register is_active is ↦ in_register who register is_active is
    | claimed who is ↦ claimed who is
    | in_handle handle is ↦ in_handle handle is
  ];
  links = λ source cell link. elim link [
    | in_slot slot is_live is ↦ in_slot slot is_live is
    | in_property place is_live below is ↦ in_property place is_live below is
  ];
  triples = λ table key cell triple. record { is_live = triple.is_live; has_pair = triple.has_pair };
  group_mates = λ one other group_mate. record { one_is_live = group_mate.one_is_live; other_is_live = group_mate.other_is_live; same_group = group_mate.same_group; in_a_group = group_mate.in_a_group };
}

pub take-all : {X : Type 0} (xs : List X) → take (length xs) xs ≡ xs
take-all [] = refl
take-all (x ∷ xs) = ap (λ (rest : List _). x ∷ rest) (take-all xs)

-- what stands at the last moment stands in the span up to it
pub graph_in_span : (layout : Layout) (history : List Event) (from : ℕ) → from ≤ length history →
    IsWithin (graph_of (state_after layout history)) (span_of layout history from (length history))
graph_in_span layout history from early =
    let e : history ≡ take (length history) history = sym (take-all history) in
    record {
      roots = λ cell root. (length history, early, omega arith, subst (λ (h : List Event). IsRoot (state_after layout h) cell) e root);
      links = λ source cell link. (length history, early, omega arith, subst (λ (h : List Event). IsLink (state_after layout h) source cell) e link);
      triples = λ table key cell triple. (length history, early, omega arith, subst (λ (h : List Event). IsTriple (state_after layout h) table key cell) e triple);
      group_mates = λ one other group_mate. (length history, early, omega arith, subst (λ (h : List Event). AreGroupMates (state_after layout h) one other) e group_mate);
    }
