-- What paths retain.
use native.Mathlib.Omega.{arith}
use Rattle.std.proofs.Common.{ℕ, suc, ◌≡◌}
use Rattle.tide_model.specs.Graph.{Graph, IsRetained, is_root, is_further, by_link, by_pair, by_group_mate, no_cell}
use Rattle.tide_retained.specs.Path.{IsStep, along_link, to_value, to_group_mate, Reaches, at_root, by_step, IsDistance}

pub step_retains : {graph : Graph} {source cell : ℕ} → IsRetained graph no_cell source → IsStep graph source cell → IsRetained graph no_cell cell
step_retains {graph} {source} {cell} kept (along_link link) = by_link source cell kept link
step_retains {graph} {source} {cell} kept (to_value key triple key_kept) = by_pair source key cell kept key_kept triple
step_retains {graph} {source} {cell} kept (to_group_mate group_mate) = by_group_mate source cell kept group_mate

pub reached_is_retained : {graph : Graph} {steps cell : ℕ} → Reaches graph steps cell → IsRetained graph no_cell cell
reached_is_retained (at_root root) = is_root _ root
reached_is_retained (by_step source r step) = step_retains (reached_is_retained r) step

-- a path with so many steps
record Reached (graph : Graph) (cell : ℕ) : Type 0 where
  steps : ℕ
  path : Reaches graph steps cell

reach : (graph : Graph) (cell : ℕ) → IsRetained graph no_cell cell → Reached graph cell
reach graph cell (is_root c root) = record { steps = 0; path = at_root root }
reach graph cell (is_further c none) = absurd none
reach graph cell (by_link source c kept link) = let r = reach graph source kept in record { steps = suc r.steps; path = by_step source r.path (along_link link) }
reach graph cell (by_pair table key c kept key_kept triple) = let r = reach graph table kept in record { steps = suc r.steps; path = by_step table r.path (to_value key triple key_kept) }
reach graph cell (by_group_mate one c kept group_mate) = let r = reach graph one kept in record { steps = suc r.steps; path = by_step one r.path (to_group_mate group_mate) }

pub retained_is_reached : (graph : Graph) (cell : ℕ) → IsRetained graph no_cell cell → (steps : ℕ) × Reaches graph steps cell
retained_is_reached graph cell kept = let r = reach graph cell kept in (r.steps, r.path)

pub one_distance : (graph : Graph) (cell a b : ℕ) → IsDistance graph cell a → IsDistance graph cell b → a ≡ b
one_distance graph cell a b da db = let l = da.least b db.reaches in let m = db.least a da.reaches in omega (arith, l, m)
