-- What is summed up over a whole history, and that sums have just that.
use Rattle.std.specs.Prelude.{ℕ, ◌≡◌, ◌+◌, ◌-◌, ◌^◌, false, List, count_by, min, not, sum_by, Option, None, Some, if◌then◌else◌}
use Rattle.tide_model.specs.declared.entry.Event.{Event}
use Rattle.tide_model.specs.Cycle.{begin_count}
use Rattle.tide_model.specs.Old.{is_full}
use Rattle.tide_model.specs.Since.{is_birth}
use Rattle.tide_statistics.specs.declared.sums.CycleSums.{CycleSums}
use Rattle.tide_statistics.specs.declared.told.BegunTold.{BegunTold}
use Rattle.tide_statistics.specs.declared.told.FreezeTold.{FreezeTold}
use Rattle.tide_statistics.specs.declared.told.PauseTold.{PauseTold}
use Rattle.tide_statistics.specs.Statistics.{paused_in, statistics_in, visited_in}

-- how many full cycles ended in a history
abbrev pub full_cycles_in : List Event → ℕ
full_cycles_in history = count_by (λ cycle. cycle.full) (statistics_in history)

-- how many Eden cycles ended in it
abbrev pub eden_cycles_in : List Event → ℕ
eden_cycles_in history = count_by (λ cycle. not cycle.full) (statistics_in history)

-- how many cells all its pauses made black
abbrev pub all_paused : List Event → ℕ
all_paused history = sum_by (λ event. paused_in event.entry) history

-- how many cells its visitors told to have made black, all together
abbrev pub all_visited : List Event → ℕ
all_visited history = sum_by (λ event. visited_in event.entry) history

-- how many cells were born in it
abbrev pub all_born : List Event → ℕ
all_born history = count_by (λ event. is_birth event.entry) history

-- how far a sum goes
abbrev pub most : ℕ
most = 2 ^ 64 - 1

-- The sums are those of the history: each as far as it goes, but how many cycles began just so, and of the one that
-- began last its kind.
pub record HasSummed (history : List Event) (sums : CycleSums) : Type 0 where
  pub full_cycles : sums.full_cycles ≡ min (full_cycles_in history) most
  pub eden_cycles : sums.eden_cycles ≡ min (eden_cycles_in history) most
  pub paused : sums.paused ≡ min (all_paused history) most
  pub visited : sums.visited ≡ min (all_visited history) most
  pub born : sums.born ≡ min (all_born history) most
  pub begun : sums.begun ≡ begin_count history
  pub is_full : sums.is_full ≡ is_full history

-- how many cycles began, as sums say
abbrev pub begun_by : CycleSums → ℕ
begun_by sums = sums.begun

-- the sums of a history of which nothing has happened yet
abbrev pub no_sums : CycleSums
no_sums = record { full_cycles = 0; eden_cycles = 0; paused = 0; visited = 0; born = 0; begun = 0; is_full = false }

-- a sum with so many more, as far as it goes
abbrev pub raised : ℕ → ℕ → ℕ
raised sum more = min (sum + more) most

-- what the sums are once a part was added in which so many cells were born
abbrev pub with_part : CycleSums → ℕ → CycleSums
with_part sums born = record sums { born = raised sums.born born }

-- what they are once the cycle that began last ended
abbrev pub sums_with_end : CycleSums → CycleSums
sums_with_end sums =
    if sums.is_full then record sums { full_cycles = raised sums.full_cycles 1 }
    else record sums { eden_cycles = raised sums.eden_cycles 1 }

-- what they are once a pause was added, and the end behind it, if its cycle ended
abbrev pub sums_with_pause : CycleSums → PauseTold → CycleSums
sums_with_pause sums told =
    if told.ended then sums_with_end (record sums { paused = raised sums.paused told.visits })
    else record sums { paused = raised sums.paused told.visits }

-- what they are once the cycle that marks went on, if one does
abbrev pub sums_with_on : CycleSums → Option PauseTold → CycleSums
sums_with_on sums None = sums
sums_with_on sums (Some told) = sums_with_pause sums told

-- what they are once a cycle began, if one does
abbrev pub sums_with_begun : CycleSums → Option BegunTold → CycleSums
sums_with_begun sums None = sums
sums_with_begun sums (Some told) =
    sums_with_pause (record sums { begun = sums.begun + 1; is_full = told.full }) told.pause

-- what they are once a freeze was added that told this, and visitors so many cells, all together
abbrev pub with_told : CycleSums → ℕ → FreezeTold → CycleSums
with_told sums visited told =
    sums_with_begun (sums_with_on (record sums { visited = raised sums.visited visited }) told.went_on) told.begun
