-- No word so far is that of a pair of the key.
use Rattle.std.proofs.Common.{ℕ, ◌<◌}
use Rattle.tide_model.specs.declared.val.Val.{Val}
use Rattle.tide_call.specs.Pairs.{PairStandsAt}
use Rattle.tide_call.proofs.pairs.pair_of.Given as goal

abbrev pub invariant-loop-place : goal.invariant-loop-place
invariant-loop-place l = (value : Val) (place : ℕ) → place < l.place → PairStandsAt l.words l.key value place → ⊥
