-- How large the numbers of a log get, so that a word has room for them.
use Rattle.std.specs.Prelude.{ℕ, ◌≡◌, ◌+◌, ◌*◌, ◌<◌, ◌≤◌, ◌^◌, Some}
use Rattle.tide_statistics.specs.declared.told.BegunTold.{BegunTold}
use Rattle.tide_statistics.specs.declared.told.FreezeTold.{FreezeTold}
use Rattle.tide_statistics.specs.declared.told.PauseTold.{PauseTold}
use Rattle.tide_statistics.specs.Statistics.{Logged}

-- No more parts than so many were opened since the last cycle began. A freeze stands behind each: in each visitors told
-- to have made at most 2^32 cells black together, and so many each pause, of which the one behind the beginning is one.
pub record AreFew (most : ℕ) (log : Logged) : Type 0 where
  pub parts : log.parts ≤ most
  pub visited : log.visited ≤ log.parts * 2 ^ 32
  pub paused : log.paused ≤ (log.parts + 1) * 2 ^ 32

-- the freeze behind the last of these parts is still to come
pub record AreFewIn (most : ℕ) (log : Logged) : Type 0 where
  pub parts : log.parts ≤ most
  pub visited : log.visited + 2 ^ 32 ≤ log.parts * 2 ^ 32
  pub paused : log.paused ≤ log.parts * 2 ^ 32

-- the pauses that a freeze tells made fewer than 2^32 cells black
pub record PausesAreFew (told : FreezeTold) : Type 0 where
  pub went_on : (pause : PauseTold) → told.went_on ≡ Some pause → pause.visits < 2 ^ 32
  pub begun : (begun : BegunTold) → told.begun ≡ Some begun → begun.pause.visits < 2 ^ 32
