-- Lines of real runs, to which the definitions compute.
use Rattle.std.specs.Prelude.{◌≡◌, ℕ, false, true, List, [], ◌∷◌, codes}
use Rattle.tide_model.specs.declared.op.Op.TheVariants.{Alloc, Table, Get, Put, Move, Set, Drop, Claim, Release, Unclaim, Add, GetProp, SetProp, StrongSet, StrongGet, WeakSet, WeakGet, PairSet, PairGet, PairDel, Group, Collect, Retire}
use Rattle.tide_model.specs.declared.op.Refusal.TheVariants.{NotCell, IsTable, NotTable, NoSlot, Held, NotHeld, Present, Absent, NoShape, PairsFull, ClaimsFull, Full}
use Rattle.tide_model.specs.declared.op.Reply.TheVariants.{Done, Born, Seen, Asked, Refused}
use Rattle.tide_model.specs.declared.val.Val.TheVariants.{Empty, Int, Cell}
use Rattle.tide_text.specs.declared.work.fault.Fault.TheVariants.{NotToml, TooLong, Missing, Bad, BadOp, Memory}
use Rattle.tide_text.specs.declared.work.field.Field.TheVariants.{Registers, Ops, Other}
use Rattle.tide_model.specs.declared.entry.Entry.TheVariants.{Call, Begin, Pause, End}
use Rattle.tide_model.specs.History.{plain}
use Rattle.tide_model.specs.Rows.{small}
use Rattle.tide_text.specs.lines.FaultLine.{fault_line}
use Rattle.tide_text.specs.lines.Line.{call_line, cycle_line, live_line, mutator_line, refusal_text, statistics_line}
use Rattle.tide_text.specs.declared.counts.Counts.{Counts}
use Rattle.tide_text.specs.Summary.{counts_with, summary_of, summary_text}

-- the names of the keys 0 and 1
abbrev pub names : List (List ℕ)
names = codes "a" ∷ codes "next_sibling_0_1" ∷ []

-- calls that were answered
abbrev pub WorkedCalls : Type 0
WorkedCalls =
    (call_line names (Alloc 0 0) (Born 0) ≡ codes "alloc r0 0 = #0\n")
    × (call_line names (Get 1 0 15) (Seen Empty) ≡ codes "get r1 r0 15 = -\n")
    × (call_line names (Get 15 2 0) (Seen (Int 0)) ≡ codes "get r15 r2 0 = 0\n")
    × (call_line names (Get 1 0 0) (Seen (Cell 20479)) ≡ codes "get r1 r0 0 = #20479\n")
    × (call_line names (Put 1 0 2) Done ≡ codes "put r1 0 r2 = ok\n")
    × (call_line names (Move 0 1) Done ≡ codes "move r0 r1 = ok\n")
    × (call_line names (Set 3 4294967295) Done ≡ codes "set r3 4294967295 = ok\n")
    × (call_line names (Drop 0) Done ≡ codes "drop r0 = ok\n")
    × (call_line names (Table 2) (Born 64) ≡ codes "table r2 = #64\n")
    × (call_line names (Claim 0) (Refused (Held 0)) ≡ codes "claim r0 = held by 0\n")
    × (call_line names (Release 0) Done ≡ codes "release r0 = ok\n")
    × (call_line names Unclaim Done ≡ codes "unclaim = ok\n")
    × (call_line names (Add 15 1 14) Done ≡ codes "add r15 next_sibling_0_1 r14 = ok\n")
    × (call_line names (GetProp 2 1 0) (Refused Absent) ≡ codes "getp r2 r1 a = absent\n")
    × (call_line names (SetProp 1 0 2) Done ≡ codes "setp r1 a r2 = ok\n")
    × (call_line names (StrongSet 255 0) Done ≡ codes "strong 255 r0 = ok\n")
    × (call_line names (StrongGet 1 0) (Seen Empty) ≡ codes "sget r1 0 = -\n")
    × (call_line names (WeakSet 3 0) Done ≡ codes "weak 3 r0 = ok\n")
    × (call_line names (WeakGet 1 3) (Seen (Cell 0)) ≡ codes "wget r1 3 = #0\n")
    × (call_line names (PairSet 0 1 2) Done ≡ codes "pair r0 r1 r2 = ok\n")
    × (call_line names (PairGet 2 0 1) (Seen (Int 7)) ≡ codes "pget r2 r0 r1 = 7\n")
    × (call_line names (PairDel 0 1) Done ≡ codes "pdel r0 r1 = ok\n")
    × (call_line names (Group 1 4294967295) Done ≡ codes "group r1 4294967295 = ok\n")
    × (call_line names Collect Asked ≡ codes "collect = asked\n")
    × (call_line names Retire Done ≡ codes "retire = ok\n")

-- why a call was refused
abbrev pub WorkedRefusals : Type 0
WorkedRefusals =
    (refusal_text (NotCell 0) ≡ codes "r0 is no cell")
    × (refusal_text IsTable ≡ codes "is a table")
    × (refusal_text NotTable ≡ codes "no table")
    × (refusal_text (NoSlot 2) ≡ codes "no slot 2")
    × (refusal_text (Held 0) ≡ codes "held by 0")
    × (refusal_text NotHeld ≡ codes "not held")
    × (refusal_text Present ≡ codes "present")
    × (refusal_text Absent ≡ codes "absent")
    × (refusal_text NoShape ≡ codes "no shape")
    × (refusal_text PairsFull ≡ codes "pairs full")
    × (refusal_text ClaimsFull ≡ codes "claims full")
    × (refusal_text (Full 1) ≡ codes "full 1")
    × (call_line names (Alloc 1 0) (Refused (Full 0)) ≡ codes "alloc r1 0 = full 0\n")

-- the lines around the calls
abbrev pub WorkedFrame : Type 0
WorkedFrame =
    (mutator_line 0 ≡ codes "mutator 0\n")
    × (cycle_line 1 1 [] ≡ codes "cycle 1 kept 1 freed 0\n")
    × (cycle_line 2 0 (0 ∷ []) ≡ codes "cycle 2 kept 0 freed 1: #0\n")
    × (cycle_line 2 0 (0 ∷ 1 ∷ 2 ∷ 64 ∷ []) ≡ codes "cycle 2 kept 0 freed 4: #0 #1 #2 #64\n")
    × (live_line 0 ≡ codes "live 0\n")
    × (statistics_line 1 false 3 6 2 9 4 ≡ codes "stats 1 Eden freezes 3 born 6 marking 2 paused 9 visited 4\n")
    × (statistics_line 4 true 1 0 0 17 0 ≡ codes "stats 4 full freezes 1 born 0 marking 0 paused 17 visited 0\n")

-- what is wrong with bytes that are no workload
abbrev pub WorkedFaults : Type 0
WorkedFaults =
    (fault_line TooLong ≡ codes "riptide: too long\n")
    × (fault_line NotToml ≡ codes "riptide: not TOML\n")
    × (fault_line (Missing Registers) ≡ codes "riptide: missing field registers\n")
    × (fault_line (Bad Ops) ≡ codes "riptide: bad field ops\n")
    × (fault_line (Bad Other) ≡ codes "riptide: bad field other\n")
    × (fault_line (BadOp 1 65535) ≡ codes "riptide: bad op 65535 of mutator 1\n")
    × (fault_line Memory ≡ codes "riptide: no memory\n")

-- the summary of a run of no call, of one of a call of each kind, and of the history of one mutator that asks for a
-- cycle
abbrev pub WorkedSummaries : Type 0
WorkedSummaries =
    (summary_text (counts_with 1 [] 0) ≡ codes "mutators 1 calls 0\nborn 0 ok 0 cell 0 int 0 empty 0 asked 0 refused 0\nlive 0\n")
    × (summary_text (counts_with 16 (Done ∷ Born 3 ∷ Seen (Cell 3) ∷ Seen (Int 3) ∷ Seen Empty ∷ Asked ∷ Refused IsTable ∷ Done ∷ []) 20480)
    ≡ codes "mutators 16 calls 8\nborn 1 ok 2 cell 1 int 1 empty 1 asked 1 refused 1\nlive 20480\n")
    × (summary_of small (plain (Call 0 (Alloc 0 0) (Born 0)) ∷ plain (Call 0 Collect Asked) ∷ plain (Begin 1 true) ∷ plain (Pause 1) ∷ plain (End 1 []) ∷ [])
    ≡ codes "mutators 1 calls 2\nborn 1 ok 0 cell 0 int 0 empty 0 asked 1 refused 0\nlive 1\n")
