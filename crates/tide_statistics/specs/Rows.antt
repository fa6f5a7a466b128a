-- A history of two cycles, worked out by hand, and what is told of them.
use Rattle.std.specs.Prelude.{◌≡◌, refl, false, true, List, [], ◌∷◌, length, None, Some}
use Rattle.std.proofs.Common.{ap, arith}
use Rattle.tide_model.specs.declared.op.Op.TheVariants.{Alloc, Drop, Collect}
use Rattle.tide_model.specs.declared.op.Reply.TheVariants.{Done, Born, Asked}
use Rattle.tide_model.specs.declared.entry.Entry.TheVariants.{Begin, Call, End, Open, Pause, Sweep, Visits}
use Rattle.tide_model.specs.declared.entry.Event.{Event}
use Rattle.tide_model.specs.History.{plain}
use Rattle.tide_statistics.specs.declared.log.CycleStatistics.{CycleStatistics}
use Rattle.tide_statistics.specs.Statistics.{statistics_in}
use Rattle.tide_statistics.specs.Sums.{HasSummed}
use Rattle.tide_statistics.specs.Told.{TellsFreeze}

-- An Eden cycle begins behind part 1, once two cells were born, and ends behind part 2, in which one was. Another cell
-- is born in part 3, behind which a full cycle begins and ends.
abbrev pub eden_then_full : List Event
eden_then_full =
    plain (Open 1 4) ∷ plain (Call 0 (Alloc 0 0) (Born 0)) ∷ plain (Call 0 (Alloc 1 0) (Born 1))
    ∷ plain (Begin 1 false) ∷ plain (Pause 1)
    ∷ plain (Open 2 3) ∷ plain (Call 0 (Drop 1) Done) ∷ plain (Call 0 (Alloc 1 0) (Born 2))
    ∷ plain (Visits 0 1) ∷ plain (Pause 0) ∷ plain (End 1 [])
    ∷ plain (Open 3 4) ∷ plain (Call 0 (Alloc 0 0) (Born 3)) ∷ plain (Call 0 Collect Asked)
    ∷ plain (Begin 2 true) ∷ plain (Pause 2) ∷ plain (End 2 (0 ∷ 1 ∷ [])) ∷ []

-- what is told of it
abbrev pub its_cycles : List CycleStatistics
its_cycles =
    record { number = 1; full = false; freezes = 2; before = 2; marking = 1; paused = 1; visited = 1 }
    ∷ record { number = 2; full = true; freezes = 1; before = 1; marking = 0; paused = 2; visited = 0 } ∷ []

pub statistics_of_eden_then_full : statistics_in eden_then_full ≡ its_cycles
statistics_of_eden_then_full = refl

-- what is summed up over it
pub sums_of_eden_then_full : HasSummed eden_then_full
    (record { full_cycles = 1; eden_cycles = 1; paused = 3; visited = 1; born = 4; begun = 2; is_full = true })
sums_of_eden_then_full = record { full_cycles = refl; eden_cycles = refl; paused = refl; visited = refl; born = refl; begun = refl; is_full = refl }

-- a cycle that hasn't ended
abbrev pub one_that_marks : List Event
one_that_marks = plain (Open 1 4) ∷ plain (Call 0 (Alloc 0 0) (Born 0)) ∷ plain (Begin 1 false) ∷ plain (Pause 1) ∷ []

-- nothing is told of it
pub statistics_of_one_that_marks : statistics_in one_that_marks ≡ []
statistics_of_one_that_marks = refl

-- and it isn't summed up as one that ended, but its pause and the birth before it are
pub sums_of_one_that_marks : HasSummed one_that_marks
    (record { full_cycles = 0; eden_cycles = 0; paused = 1; visited = 0; born = 1; begun = 1; is_full = false })
sums_of_one_that_marks = record { full_cycles = refl; eden_cycles = refl; paused = refl; visited = refl; born = refl; begun = refl; is_full = refl }

-- its Eden cycle is not summed up as a full one
pub eden_is_not_full : HasSummed eden_then_full
    (record { full_cycles = 2; eden_cycles = 0; paused = 3; visited = 1; born = 4; begun = 2; is_full = true }) → ⊥
eden_is_not_full has = let clash : 2 ≡ 1 = has.full_cycles in omega (arith, clash)

-- a history up to the freeze behind its second part, and that freeze, in which a cycle ends
abbrev pub before_the_freeze : List Event
before_the_freeze = plain (Open 1 4) ∷ plain (Begin 1 false) ∷ plain (Pause 1) ∷ plain (Open 2 3) ∷ []

abbrev pub ending_freeze : List Event
ending_freeze = plain (Visits 0 1) ∷ plain (Pause 0) ∷ plain (End 1 (4 ∷ [])) ∷ plain (Sweep 0) ∷ []

-- it tells its pause and its end, without the cell and the sweep
pub ending_freeze_is_told : TellsFreeze before_the_freeze ending_freeze (1 ∷ [])
    (record { went_on = Some (record { visits = 0; ended = true }); begun = None })
ending_freeze_is_told = refl

-- and may not leave its end out
pub end_is_not_left_out : TellsFreeze before_the_freeze ending_freeze (1 ∷ [])
    (record { went_on = Some (record { visits = 0; ended = false }); begun = None }) → ⊥
end_is_not_left_out same = let clash : 3 ≡ 2 = ap length same in omega (arith, clash)
