-- What the program reads, answers and writes.
use Rattle.std.specs.Prelude.{ℕ, ◌≡◌, ◌+◌, ◌≤◌, ◌⊎◌, true, List, [], ◌∷◌, length, take, Option, Ok, Err, codes, ◌==◌, if◌then◌else◌}
use Rattle.std.specs.Io.KnownBytes.{Consumes, Appends, IsAtEnd}
use Rattle.tide_io.specs.Faults.{Rose, AppendsPart}
use Rattle.tide_workload.specs.declared.reading.TheConstants.{MAX_BYTES}
use Rattle.tide_workload.specs.Words.{Fault, fault_line, reads_workload, Work}
use Rattle.tide_model.specs.Numbers.{is_among}
use Rattle.tide_run.specs.declared.stop.Stop.{Stop}
use Rattle.tide_run.specs.declared.stop.Stop.TheVariants.{Usage, ReadFault, BadInput, Memory}

-- of the bytes that are left, those that reading takes: at most 4,194,305, one more than a workload may have
abbrev pub input_of : List ℕ → List ℕ
input_of bytes = take (MAX_BYTES + 1) bytes

-- these bytes were read from the source, to its end unless they are too many for a workload
pub record Took (old new : Option (List ℕ)) (bytes : List ℕ) : Type 0 where
  pub consumed : Consumes old new bytes
  pub few : length bytes ≤ MAX_BYTES + 1
  pub ended : length bytes ≤ MAX_BYTES → IsAtEnd new

-- the bytes that were read are this workload
pub record ReadWork (old new : Option (List ℕ)) (work : Work) : Type 0 where
  pub bytes : List ℕ
  pub took : Took old new bytes
  pub reads : reads_workload bytes ≡ Ok work

-- the bytes that were read are refused as a workload, for this fault
pub record RefusedInput (old new : Option (List ℕ)) (fault : Fault) : Type 0 where
  pub bytes : List ℕ
  pub took : Took old new bytes
  pub reads : reads_workload bytes ≡ Err fault

-- a line was written, or a first part of it where the sink failed
pub record TellsLine (old new : Option (List ℕ)) (before now : ℕ) (line : List ℕ) : Type 0 where
  pub later : before ≤ now
  pub line_or_part : Appends old new line ⊎ (Rose before now × AppendsPart old new line)

-- what was read is refused as a workload, and the line that was told, or a first part of it where the sink failed, is
-- that of its first fault
pub record ToldFault (old new : Option (List ℕ)) (held held' : Option (List ℕ)) (before now : ℕ) : Type 0 where
  pub fault : Fault
  pub refused : RefusedInput old new fault
  pub told : TellsLine held held' before now (fault_line fault)

-- the status of a program that ran nothing
abbrev pub stop_status : Stop → ℕ
stop_status Usage = 2
stop_status ReadFault = 4
stop_status (BadInput fault) = 3
stop_status Memory = 6

-- the line of a program that ran nothing
abbrev pub stop_line : Stop → List ℕ
stop_line Usage = codes "riptide: usage: riptide [--visitors N] [--plain] [--make N] [--snapshot] [--stats]\n"
stop_line ReadFault = codes "riptide: read fault\n"
stop_line (BadInput fault) = fault_line fault
stop_line Memory = codes "riptide: no memory\n"

-- the line of a status that has one and the same each time: neither 0, which has none, nor 3, which has that of the
-- fault
abbrev pub status_line : ℕ → List ℕ
status_line status =
    if status == 2 then codes "riptide: usage: riptide [--visitors N] [--plain] [--make N] [--snapshot] [--stats]\n"
    else if status == 4 then codes "riptide: read fault\n"
    else if status == 5 then codes "riptide: write fault\n"
    else codes "riptide: no memory\n"

-- the statuses that there are
abbrev pub IsStatus : ℕ → Type 0
IsStatus status = is_among (0 ∷ 2 ∷ 3 ∷ 4 ∷ 5 ∷ 6 ∷ []) status ≡ true
