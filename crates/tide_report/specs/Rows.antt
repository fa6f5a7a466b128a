-- A history of two cycles, worked out by hand, and what tells its ends.
use Rattle.std.specs.Prelude.{◌≡◌, refl, true, List, [], ◌∷◌}
use Rattle.tide_model.specs.declared.op.Op.TheVariants.{Alloc, Drop, Collect, Retire}
use Rattle.tide_model.specs.declared.op.Reply.TheVariants.{Done, Born, Asked}
use Rattle.tide_model.specs.declared.entry.Entry.TheVariants.{Call, Begin, Pause, End, Sweep}
use Rattle.tide_model.specs.declared.entry.Event.{Event}
use Rattle.tide_model.specs.History.{plain}
use Rattle.tide_model.specs.Rows.{small}
use Rattle.tide_report.specs.declared.report.CycleLine.{CycleLine}
use Rattle.tide_report.specs.Ends.{CycleEnd, all_freed, ends_in, ends_of}
use Rattle.tide_report.specs.Reports.{Reported}

-- of three cells the first is dropped and freed, and the others are freed once their mutator has retired
abbrev pub one_then_two : List Event
one_then_two =
    plain (Call 0 (Alloc 0 0) (Born 0)) ∷ plain (Call 0 (Alloc 1 0) (Born 1)) ∷ plain (Call 0 (Alloc 2 0) (Born 2))
    ∷ plain (Call 0 (Drop 0) Done) ∷ plain (Call 0 Collect Asked)
    ∷ plain (Begin 1 true) ∷ plain (Pause 2) ∷ plain (End 1 (0 ∷ [])) ∷ plain (Sweep 0)
    ∷ plain (Call 0 Retire Done)
    ∷ plain (Begin 2 true) ∷ plain (Pause 0) ∷ plain (End 2 (1 ∷ 2 ∷ [])) ∷ plain (Sweep 0) ∷ []

-- its ends: two cells live after the first, and none after the second
abbrev pub its_ends : List CycleEnd
its_ends = record { number = 1; kept = 2; freed = 0 ∷ [] } ∷ record { number = 2; kept = 0; freed = 1 ∷ 2 ∷ [] } ∷ []

pub ends_of_one_then_two : ends_in small one_then_two ≡ its_ends
ends_of_one_then_two = refl

-- a report of two lines over the ids 0, 1 and 2, of which the second begins at a place
abbrev pub report_from : List CycleLine → Reported
report_from lines = record { cycles = lines; ids = 0 ∷ 1 ∷ 2 ∷ []; cycle_cap = 2; id_cap = 3 }

abbrev pub first_line : CycleLine
first_line = record { number = 1; kept = 2; first = 0; freed = 1 }

-- the second line's range follows the first one's
pub told_by_report :
    ends_of (report_from (first_line ∷ record { number = 2; kept = 0; first = 1; freed = 2 } ∷ [])) ≡ its_ends
told_by_report = refl

-- where it begins at the front again, other cells are told
pub other_cells : ends_of (report_from (first_line ∷ record { number = 2; kept = 0; first = 0; freed = 2 } ∷ []))
    ≡ record { number = 1; kept = 2; freed = 0 ∷ [] } ∷ record { number = 2; kept = 0; freed = 0 ∷ 1 ∷ [] } ∷ []
other_cells = refl

-- the ids are the cells that the cycles freed, one cycle after another
pub ids_of_one_then_two : all_freed (ends_in small one_then_two) ≡ 0 ∷ 1 ∷ 2 ∷ []
ids_of_one_then_two = refl
