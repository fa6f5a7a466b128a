-- What a full collection of a plain store frees: it spares no cell.
use Rattle.std.proofs.Common.{ℕ, true, List}
use Rattle.std.proofs.lemmas.Bool.{false≢true}
use Rattle.std.specs.Prelude.{IfOk, Result, Ok, Err}
use Rattle.tide_plain.specs.collect.Collecting.{IsFreed}
use Rattle.tide_model.proofs.Retained.{IsWithin-refl}
use Rattle.tide_model.specs.Graph.{graph_of, no_cell, retained_more}
use Rattle.tide_model.specs.State.{State}
use Rattle.tide_plain.specs.calls.Store.{IsSpared, Plain, state_of}

full_frees : (store : Plain) (freed : List ℕ) → IsFreed (state_of store) (IsSpared store true) freed → IsFreed (state_of store) no_cell freed
full_frees store freed is = record {
  rising = is.rising;
  were_live = is.were_live;
  frees = λ cell among kept. is.frees cell among
      (retained_more (graph_of state) (graph_of state) no_cell (IsSpared store true) (IsWithin-refl (graph_of state)) (λ c none. absurd none) cell kept);
  keeps = λ cell alive unfreed.
      retained_more (graph_of state) (graph_of state) (IsSpared store true) no_cell (IsWithin-refl (graph_of state))
      (λ c spared. absurd (false≢true spared)) cell (is.keeps cell alive unfreed);
}
  where
    state : State
    state = state_of store

-- so it is where a collection was made
pub IsFreed-full : {X E : Type 0} (cells : X → List ℕ) (store : Plain) (result : Result X E) →
    IfOk result (λ freed. IsFreed (state_of store) (IsSpared store true) (cells freed)) →
    IfOk result (λ freed. IsFreed (state_of store) no_cell (cells freed))
IsFreed-full cells store (Ok freed) is = full_frees store (cells freed) is
IsFreed-full cells store (Err e) is = is
