-- Rounds that were worked out by hand, to which the definitions compute.
use Rattle.std.specs.Prelude.{ℕ, ◌≡◌, ◌≢◌, List, [], ◌∷◌, length}
use Rattle.tide_model.specs.declared.op.Op.{Op}
use Rattle.tide_model.specs.declared.op.Op.TheVariants.{Alloc, Get, Put, Move, StrongSet}
use Rattle.tide_make.specs.Made.{made, rounds_of}
use Rattle.tide_make.specs.Rounds.{round_ops, seed_after}

-- what is drawn, round by round, by the first and the last mutator; the largest number begins anew at 0 for mutator 1
pub record Seeds : Type 0 where
  pub first : seed_after 7 0 1 ≡ 9098160460397411210
  pub second : seed_after 7 0 2 ≡ 17628806926561717905
  pub last_mutator : seed_after 0 3 1 ≡ 2088359638719790806
  pub wrapped : seed_after 18446744073709551615 1 0 ≡ 0
  pub from_nothing : seed_after 18446744073709551615 1 1 ≡ 1442695040888963407

-- the first rounds of mutator 0 in the workload of 7, and those of the last mutator in the workload of 0
pub record FirstRounds : Type 0 where
  pub three_of_seven : rounds_of 7 0 3 ≡
      Alloc 1 0 ∷ Put 1 0 9 ∷ Move 0 1 ∷ Put 0 1 1 ∷ Get 8 0 0
      ∷ Alloc 2 0 ∷ Put 2 0 0 ∷ Move 0 2 ∷ Put 0 1 1 ∷ Get 8 0 0
      ∷ Alloc 3 0 ∷ Put 3 0 0 ∷ Move 0 3 ∷ Put 0 1 3 ∷ Get 8 0 0 ∷ []
  pub two_of_nothing : rounds_of 0 3 2 ≡
      Alloc 1 3 ∷ Put 1 0 9 ∷ Move 0 1 ∷ Put 0 1 1 ∷ Get 8 0 0
      ∷ Alloc 2 3 ∷ Put 2 0 0 ∷ Move 0 2 ∷ Put 0 1 1 ∷ Get 8 0 0 ∷ []
  -- the eighth round takes the register of the first one
  pub eighth : round_ops 0 7 5940934178883179151 ≡ Alloc 1 0 ∷ Put 1 0 0 ∷ Move 0 1 ∷ Put 0 1 1 ∷ Get 8 0 0 ∷ []
  -- five cells back
  pub sixth : round_ops 0 5 2553420073753464661 ≡ Alloc 6 0 ∷ Put 6 0 0 ∷ Move 0 6 ∷ Put 0 1 1 ∷ Get 8 0 0 ∷ []

-- the rounds that end a chain: the first chain of mutator 2 gets handle 128, and so does the 65th; the round after
-- begins a chain
pub record ChainEnds : Type 0 where
  pub first : round_ops 2 49 14846000746125929875 ≡ Alloc 1 2 ∷ Put 1 0 0 ∷ Move 0 1 ∷ Put 0 1 7 ∷ StrongSet 128 0 ∷ []
  pub again : round_ops 2 3249 17253481597347017235 ≡ Alloc 2 2 ∷ Put 2 0 0 ∷ Move 0 2 ∷ Put 0 1 2 ∷ StrongSet 128 0 ∷ []
  pub next : round_ops 2 50 0 ≡ Alloc 2 2 ∷ Put 2 0 9 ∷ Move 0 2 ∷ Put 0 1 2 ∷ Get 8 0 0 ∷ []
  pub no_handle_before : round_ops 2 48 0 ≢ Alloc 7 2 ∷ Put 7 0 0 ∷ Move 0 7 ∷ Put 0 1 7 ∷ StrongSet 128 0 ∷ []

-- how large a workload is
pub record Sizes : Type 0 where
  pub mutators : (number : ℕ) → length (made number).scripts ≡ 4
  pub no_keys : (number : ℕ) → (made number).keys ≡ []
