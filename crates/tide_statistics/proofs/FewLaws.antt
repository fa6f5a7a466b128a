-- The numbers of a log stay few.
use Rattle.std.proofs.Common.{ℕ, ◌≡◌, ◌+◌, ◌<◌, ◌≤◌, refl, arith, Bool, true, false, Option, None, Some}
use Rattle.std.specs.Prelude.{◌*◌, ◌^◌}
use Rattle.tide_statistics.specs.declared.told.BegunTold.{BegunTold}
use Rattle.tide_statistics.specs.declared.told.FreezeTold.{FreezeTold}
use Rattle.tide_statistics.specs.declared.told.PauseTold.{PauseTold}
use Rattle.tide_statistics.specs.Few.{AreFew, AreFewIn, PausesAreFew}
use Rattle.tide_statistics.specs.Statistics.{Logged, nothing}
use Rattle.tide_statistics.specs.Told.{since_end_with, with_begun, with_freeze, with_on, with_pause}

-- nothing was run yet
pub AreFew-nothing : AreFew 0 nothing
AreFew-nothing = record { parts = omega arith; visited = omega arith; paused = omega arith }

-- a part was opened
pub AreFew-opened : (most : ℕ) (log : Logged) → AreFew most log → AreFewIn (most + 1) (record log { parts = log.parts + 1 })
AreFew-opened most log few =
    let parts = few.parts in
    let visited = few.visited in
    let paused = few.paused in record {
      parts = omega (arith, parts);
      visited = omega (arith, visited);
      paused = omega (arith, paused);
    }

-- a pause was told
few-pause : (most : ℕ) (log : Logged) (told : PauseTold) (born : ℕ) → told.visits < 2 ^ 32 → log.parts ≤ most →
    log.visited ≤ log.parts * 2 ^ 32 → log.paused ≤ log.parts * 2 ^ 32 → AreFew most (with_pause log told born)
few-pause most log told born few parts visited paused = step told.ended
  where
    step : (ended : Bool) → AreFew most (with_pause log (record { visits = told.visits; ended = ended }) born)
    step true = record { parts = parts; visited = visited; paused = omega (arith, few, paused) }
    step false = record { parts = parts; visited = visited; paused = omega (arith, few, paused) }

-- a freeze was told
pub AreFew-told : (most visited : ℕ) (log : Logged) (told : FreezeTold) (since_end in_cycle : ℕ) → visited < 2 ^ 32 → PausesAreFew told →
    AreFewIn most log → AreFew most (with_freeze log visited told since_end in_cycle)
AreFew-told most visited log told since_end in_cycle some pauses few = begun told.begun refl
  where
    on : (went_on : Option PauseTold) → told.went_on ≡ went_on →
        AreFew most (with_on (record log { visited = log.visited + visited }) went_on in_cycle)
    on None is =
        let had = few.visited in
        let paused = few.paused in record { parts = few.parts; visited = omega (arith, had, some); paused = omega (arith, paused) }
    on (Some pause) is =
        let had = few.visited in
        few-pause most (record log { visited = log.visited + visited }) pause in_cycle (pauses.went_on pause is) few.parts
        (omega (arith, had, some)) few.paused

    begun : (new : Option BegunTold) → told.begun ≡ new →
        AreFew most (with_begun (with_on (record log { visited = log.visited + visited }) told.went_on in_cycle) new (since_end_with told.went_on since_end))
    begun None is = on told.went_on refl
    begun (Some new) is =
        let before = with_on (record log { visited = log.visited + visited }) told.went_on in_cycle in
        few-pause most (record before {
          begun = before.begun + 1;
          full = new.full;
          parts = 0;
          before = since_end_with told.went_on since_end;
          paused = 0;
          visited = 0;
        }) new.pause 0 (pauses.begun new is) (omega arith) (omega arith) (omega arith)
