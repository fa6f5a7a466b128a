-- Blocks that are swept in a running part, worked out by hand, and what is refused beside them.
use Rattle.std.specs.Prelude.{◌≡◌, ◌<◌, ◌≤◌, ◌==◌, refl, Bool, true, false, List, [], ◌∷◌, ◌++◌, Some}
use Rattle.std.proofs.Common.{arith, ap, lit<, lit≤, ◌∙◌}
use Rattle.std.proofs.lemmas.List.Sums.{AllPass-from_list_all}
use Rattle.tide_model.specs.declared.op.Op.TheVariants.{Alloc, Drop, Retire}
use Rattle.tide_model.specs.declared.op.Reply.TheVariants.{Done, Born}
use Rattle.tide_model.specs.declared.entry.Entry.{Entry}
use Rattle.tide_model.specs.declared.entry.Entry.TheVariants.{Begin, Pause, End, Taken, Sweep, Open}
use Rattle.tide_model.specs.declared.entry.Event.{Event}
use Rattle.tide_model.specs.Cycle.{StandsBegin, StandsTaken, dead_cell}
use Rattle.tide_model.specs.Freeze.{IsFreeze, pause_entries}
use Rattle.tide_model.specs.History.{one_later, plain}
use Rattle.tide_model.specs.Pace.{Pace}
use Rattle.tide_model.specs.Periods.{Period, StandsPeriod, no_period, one_more, IsScheduled, EndsInTime, after_period}
use Rattle.tide_model.specs.Rows.{small}
use Rattle.tide_model.specs.Since.{SweepsTaken, SweptWereTaken, TakenAreSwept, is_call, is_of_part}
use Rattle.tide_model.specs.State.{idle, marking}
use Rattle.tide_model.proofs.DeadLaws.{SweepsTaken-call, SweptWereTaken-calls, SweptWereTaken-push, TakenAreSwept-none}
use Rattle.tide_model.proofs.FreezeRows.{first_calls, ends_its_cycle}
use Rattle.tide_model.proofs.PeriodLaws.{Each-all, Each-append, Each-nil}
use Rattle.tide_model.proofs.PeriodTests.{Each-tested, EndsInTime-tested, IsSwept-tested, ends_in_time, shares-tested}

-- a period of 4, a cycle by itself after three births, and room for many
abbrev pub short : Pace
short = record { calls = 4; visits = 4; headroom = 100; trigger = 3 }

-- three cells are born and dropped, and a cycle that begins by itself frees them: nothing is swept in its freeze
abbrev born_and_freed : Period
born_and_freed = record {
  part =
      first_calls (Alloc 0 0) (Born 0) ∷ first_calls (Alloc 0 0) (Born 1)
      ∷ first_calls (Alloc 0 0) (Born 2) ∷ first_calls (Drop 0) Done ∷ [];
  freeze = plain (Begin 1 false) ∷ plain (Pause 0) ∷ plain (End 1 (0 ∷ 1 ∷ 2 ∷ [])) ∷ [];
}

-- then the next free cell is taken, and the forced freeze sweeps before its cycle begins and after it
abbrev next_cell : Period
next_cell = record {
  part = first_calls (Alloc 1 0) (Born 3) ∷ first_calls Retire Done ∷ [];
  freeze =
      plain (Sweep 0) ∷ plain (Begin 2 true) ∷ plain (Pause 0) ∷ plain (End 2 (3 ∷ [])) ∷ plain (Sweep 0) ∷ [];
}

-- or the block is swept in the part, and its first cell is taken
abbrev first_cell : Period
first_cell = record {
  part =
      plain (Taken 0) ∷ plain (Sweep 0) ∷ first_calls (Alloc 1 0) (Born 0) ∷ first_calls Retire Done ∷ [];
  freeze = plain (Begin 2 true) ∷ plain (Pause 0) ∷ plain (End 2 (0 ∷ [])) ∷ plain (Sweep 0) ∷ [];
}

abbrev collected : List Event
collected = plain (Open 1 4) ∷ born_and_freed.part ++ born_and_freed.freeze

abbrev next_free_is_taken : List Event
next_free_is_taken = collected ++ plain (Open 2 4) ∷ next_cell.part ++ next_cell.freeze

abbrev swept_in_the_part : List Event
swept_in_the_part = collected ++ plain (Open 2 4) ∷ first_cell.part ++ first_cell.freeze

numbers :
    (after_period short small [] born_and_freed ≡ collected)
    × (after_period short small collected next_cell ≡ next_free_is_taken)
    × (after_period short small collected first_cell ≡ swept_in_the_part)
numbers = (refl, refl, refl)

first_freeze :
    IsFreeze short small (plain (Open 1 4) ∷ born_and_freed.part) 4 false
    (Begin 1 false ∷ Pause 0 ∷ End 1 (0 ∷ 1 ∷ 2 ∷ []) ∷ [])
first_freeze = record {
  old = [];
  new = Begin 1 false ∷ Pause 0 ∷ End 1 (0 ∷ 1 ∷ 2 ∷ []) ∷ [];
  are = refl;
  goes_on = λ marks. absurd (cc);
  rests = λ rests. refl;
  begins = λ due. record {
    paused = record { visits = 0; freed = Some (0 ∷ 1 ∷ 2 ∷ []) };
    are = refl;
    pause = record { ends = λ must. absurd (cc); at_most = λ may. lit≤ tt; all = λ may goes_on. absurd (cc) };
  };
  stays = λ not_due. absurd (cc);
}

next_freeze :
    IsFreeze short small (collected ++ plain (Open 2 4) ∷ next_cell.part) 4 true
    (Begin 2 true ∷ Pause 0 ∷ End 2 (3 ∷ []) ∷ [])
next_freeze = record {
  old = [];
  new = Begin 2 true ∷ Pause 0 ∷ End 2 (3 ∷ []) ∷ [];
  are = refl;
  goes_on = λ marks. absurd (cc);
  rests = λ rests. refl;
  begins = λ must. record {
    paused = record { visits = 0; freed = Some (3 ∷ []) };
    are = refl;
    pause = ends_its_cycle 1 0 (3 ∷ []);
  };
  stays = λ not_due. absurd (cc);
}

swept_freeze :
    IsFreeze short small (collected ++ plain (Open 2 4) ∷ first_cell.part) 4 true
    (Begin 2 true ∷ Pause 0 ∷ End 2 (0 ∷ []) ∷ [])
swept_freeze = record {
  old = [];
  new = Begin 2 true ∷ Pause 0 ∷ End 2 (0 ∷ []) ∷ [];
  are = refl;
  goes_on = λ marks. absurd (cc);
  rests = λ rests. refl;
  begins = λ must. record {
    paused = record { visits = 0; freed = Some (0 ∷ []) };
    are = refl;
    pause = ends_its_cycle 1 0 (0 ∷ []);
  };
  stays = λ not_due. absurd (cc);
}

-- the block that is taken is swept, the next moment
first_taken : TakenAreSwept first_cell.part
first_taken block = by_test (0 == block)
  where
    by_test : (same : Bool) → one_later 0 same ≤ one_later (one_later 0 same) false
    by_test true = lit≤ tt
    by_test false = lit≤ tt

-- and the sweep stands behind its taking
first_swept : SweptWereTaken first_cell.part
first_swept = Each-append SweepsTaken just_swept later taken_first
    (Each-all (λ before event. SweepsTaken (just_swept ++ before) event) (λ event. is_call event.entry)
    (λ before event. SweepsTaken-call (just_swept ++ before) event) later refl)
  where
    just_swept : List Event
    just_swept = plain (Taken 0) ∷ plain (Sweep 0) ∷ []

    later : List Event
    later = first_calls (Alloc 1 0) (Born 0) ∷ first_calls Retire Done ∷ []

    by_test : (same : Bool) → same ≡ true → 0 < one_later 0 same
    by_test true is = lit< tt
    by_test false is = absurd (cc)

    taken_first : SweptWereTaken just_swept
    taken_first = SweptWereTaken-push (plain (Taken 0) ∷ []) (plain (Sweep 0))
        (SweptWereTaken-push [] (plain (Taken 0)) (Each-nil SweepsTaken) (λ block sweeps. absurd (cc)))
        (λ block sweeps. by_test (0 == block) sweeps)

first_stands : StandsPeriod short small [] born_and_freed
first_stands = record {
  goes_on = refl;
  entries = AllPass-from_list_all (λ event. is_of_part event.entry) born_and_freed.part refl;
  calls = λ marks. AllPass-from_list_all (λ event. is_call event.entry) born_and_freed.part refl;
  taken = TakenAreSwept-none born_and_freed.part refl;
  swept_taken = SweptWereTaken-calls born_and_freed.part refl;
  shares = shares-tested short small [] born_and_freed refl;
  freeze = first_freeze;
  swept = λ must. absurd (cc);
}

next_stands : StandsPeriod short small collected next_cell
next_stands = record {
  goes_on = refl;
  entries = AllPass-from_list_all (λ event. is_of_part event.entry) next_cell.part refl;
  calls = λ marks. absurd (cc);
  taken = TakenAreSwept-none next_cell.part refl;
  swept_taken = SweptWereTaken-calls next_cell.part refl;
  shares = shares-tested short small collected next_cell refl;
  freeze = next_freeze;
  swept = λ must. IsSwept-tested small next_free_is_taken refl;
}

swept_stands : StandsPeriod short small collected first_cell
swept_stands = record {
  goes_on = refl;
  entries = AllPass-from_list_all (λ event. is_of_part event.entry) first_cell.part refl;
  calls = λ marks. absurd (cc);
  taken = first_taken;
  swept_taken = first_swept;
  shares = shares-tested short small collected first_cell refl;
  freeze = swept_freeze;
  swept = λ must. IsSwept-tested small swept_in_the_part refl;
}

-- both schedules stand: with the lowest free cell that is found at once, and with a block that is swept before
pub scheduled_where_next_free_is_taken : IsScheduled short small next_free_is_taken
scheduled_where_next_free_is_taken = record {
  periods = one_more collected next_cell (one_more [] born_and_freed no_period first_stands) next_stands;
  ends = Each-tested (EndsInTime small) (ends_in_time small) (EndsInTime-tested small) next_free_is_taken refl;
  over = refl;
}

pub scheduled_where_swept_in_the_part : IsScheduled short small swept_in_the_part
scheduled_where_swept_in_the_part = record {
  periods = one_more collected first_cell (one_more [] born_and_freed no_period first_stands) swept_stands;
  ends = Each-tested (EndsInTime small) (ends_in_time small) (EndsInTime-tested small) swept_in_the_part refl;
  over = refl;
}

-- what an end left dead is swept before the next cycle begins
abbrev until_retired : List Event
until_retired = collected ++ plain (Open 2 4) ∷ next_cell.part

pub next_begins : StandsBegin small (until_retired ++ plain (Sweep 0) ∷ []) 2
next_begins = record {
  is_idle = refl;
  is_swept = IsSwept-tested small (until_retired ++ plain (Sweep 0) ∷ []) refl;
  is_next = refl;
}

pub begins_unswept : StandsBegin small until_retired 2 → ⊥
begins_unswept begins = begins.is_swept 0 (dead_cell 0 (lit< tt) refl refl)

-- the part after an end
abbrev opened_part : List Event
opened_part = collected ++ plain (Open 2 4) ∷ []

-- a block with something dead is taken once
pub block_is_taken : StandsTaken small opened_part 0
block_is_taken = record {
  is_idle = refl;
  has_dead = dead_cell 0 (lit< tt) refl refl;
  is_first = λ was. omega (arith, was);
}

pub block_is_taken_twice : StandsTaken small (opened_part ++ plain (Taken 0) ∷ []) 0 → ⊥
block_is_taken_twice takes = takes.is_first (lit< tt)

pub swept_block_is_taken : StandsTaken small (opened_part ++ plain (Taken 0) ∷ plain (Sweep 0) ∷ []) 0 → ⊥
swept_block_is_taken takes = takes.is_first (lit< tt)

-- and once more after a later end, where something is dead again
abbrev later_end : List Event
later_end = opened_part ++ first_cell.part ++ plain (Begin 2 true) ∷ plain (Pause 0) ∷ plain (End 2 (0 ∷ [])) ∷ []

pub block_is_taken_again : StandsTaken small later_end 0
block_is_taken_again = record {
  is_idle = refl;
  has_dead = dead_cell 0 (lit< tt) refl refl;
  is_first = λ was. omega (arith, was);
}

-- a part may not end before the block that was taken is swept
pub taken_is_not_swept : TakenAreSwept (plain (Taken 0) ∷ first_calls Retire Done ∷ []) → ⊥
taken_is_not_swept swept = let few = swept 0 in omega (arith, few)

pub swept_before_it_is_taken : TakenAreSwept (plain (Sweep 0) ∷ plain (Taken 0) ∷ []) → ⊥
swept_before_it_is_taken swept = let few = swept 0 in omega (arith, few)

-- nor may a block be swept that wasn't taken in the part
pub swept_is_not_taken : SweptWereTaken (plain (Sweep 0) ∷ []) → ⊥
swept_is_not_taken swept = let few = swept 0 (plain (Sweep 0)) refl 0 refl in omega (arith, few)

-- nor one taken with nothing dead, nor any while a cycle marks
pub clean_block_is_taken : StandsTaken small [] 0 → ⊥
clean_block_is_taken takes = IsSwept-tested small [] refl 0 takes.has_dead

pub block_is_taken_while_marking : StandsTaken small (opened_part ++ plain (Begin 2 true) ∷ []) 0 → ⊥
block_is_taken_while_marking takes = let bad : marking 2 ≡ idle = takes.is_idle in cc

-- a forced freeze sweeps what the end of its own cycle left dead
abbrev left_dead : Period
left_dead = record next_cell {
  freeze = plain (Sweep 0) ∷ plain (Begin 2 true) ∷ plain (Pause 0) ∷ plain (End 2 (3 ∷ [])) ∷ [];
}

pub must_freeze_sweeps_nothing : StandsPeriod short small collected left_dead → ⊥
must_freeze_sweeps_nothing stands = stands.swept refl 0 (dead_cell 3 (lit< tt) refl refl)

-- while a cycle marks a part has calls alone
abbrev marked_first : List Event
marked_first = plain (Open 1 4) ∷ born_and_freed.part ++ plain (Begin 1 true) ∷ plain (Pause 0) ∷ []

pub block_is_swept_while_marking : StandsPeriod short small marked_first first_cell → ⊥
block_is_swept_while_marking stands = let is : false ≡ true = stands.calls refl 0 (plain (Taken 0)) (lit< tt) in cc

-- and no freeze takes one: what it sweeps it sweeps while nobody runs
abbrev taken_in_its_freeze : Period
taken_in_its_freeze = record next_cell { freeze = plain (Taken 0) ∷ next_cell.freeze }

pub block_is_taken_in_a_must_freeze : StandsPeriod short small collected taken_in_its_freeze → ⊥
block_is_taken_in_a_must_freeze stands =
    let freeze = stands.freeze in
    let begins = freeze.begins refl in
    let same : Taken 0 ∷ Begin 2 true ∷ Pause 0 ∷ End 2 (3 ∷ []) ∷ [] ≡ Begin 2 true ∷ pause_entries 2 begins.paused =
    freeze.are ∙ ap (λ (old : List Entry). old ++ freeze.new) (freeze.rests refl) ∙ begins.are in
    let first : Taken 0 ≡ Begin 2 true = cc in
    cc

pub block_is_taken_in_a_freeze : IsFreeze short small (collected ++ plain (Open 2 4) ∷ []) 4 false (Taken 0 ∷ []) → ⊥
block_is_taken_in_a_freeze freeze =
    let same : Taken 0 ∷ [] ≡ freeze.new = freeze.are ∙ ap (λ (old : List Entry). old ++ freeze.new) (freeze.rests refl) in
    let none : Taken 0 ∷ [] ≡ [] = same ∙ freeze.stays refl in
    cc
