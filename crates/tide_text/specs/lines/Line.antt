-- The lines of a run's text.
use Rattle.std.specs.Prelude.{ℕ, Bool, List, [], ◌∷◌, ◌++◌, length, codes, decimal, if◌then◌else◌}
use Rattle.std.specs.List.{flat_map}
use Rattle.tide_model.specs.declared.op.Op.{Op}
use Rattle.tide_model.specs.declared.op.Refusal.{Refusal}
use Rattle.tide_model.specs.declared.op.Refusal.TheVariants.{NotCell, IsTable, NotTable, NoSlot, Held, NotHeld, Present, Absent, NoShape, PairsFull, ClaimsFull, Full}
use Rattle.tide_model.specs.declared.op.Reply.{Reply}
use Rattle.tide_model.specs.declared.op.Reply.TheVariants.{Done, Born, Seen, Asked, Refused}
use Rattle.tide_model.specs.declared.val.Val.{Val}
use Rattle.tide_model.specs.declared.val.Val.TheVariants.{Empty, Int, Cell}
use Rattle.tide_text.specs.lines.OpText.{number_operand, op_text}

-- a cell, by its id
abbrev pub cell_text : ℕ → List ℕ
cell_text id = codes "#" ++ decimal id

-- a value that was read
unfoldable pub val_text : Val → List ℕ
val_text Empty = codes "-"
val_text (Int n) = decimal n
val_text (Cell id) = cell_text id

-- why an operation was refused
unfoldable pub refusal_text : Refusal → List ℕ
refusal_text (NotCell reg) = codes "r" ++ decimal reg ++ codes " is no cell"
refusal_text IsTable = codes "is a table"
refusal_text NotTable = codes "no table"
refusal_text (NoSlot slot) = codes "no slot" ++ number_operand slot
refusal_text (Held by) = codes "held by" ++ number_operand by
refusal_text NotHeld = codes "not held"
refusal_text Present = codes "present"
refusal_text Absent = codes "absent"
refusal_text NoShape = codes "no shape"
refusal_text PairsFull = codes "pairs full"
refusal_text ClaimsFull = codes "claims full"
refusal_text (Full class) = codes "full" ++ number_operand class

-- what an operation was answered
unfoldable pub reply_text : Reply → List ℕ
reply_text Done = codes "ok"
reply_text (Born id) = cell_text id
reply_text (Seen val) = val_text val
reply_text Asked = codes "asked"
reply_text (Refused refusal) = refusal_text refusal

-- a call under these names of keys: what was asked, and what was answered
unfoldable pub call_line : List (List ℕ) → Op → Reply → List ℕ
call_line keys op reply = op_text keys op ++ codes " = " ++ reply_text reply ++ codes "\n"

-- the line above a mutator's calls
unfoldable pub mutator_line : ℕ → List ℕ
mutator_line m = codes "mutator" ++ number_operand m ++ codes "\n"

-- a freed cell in the list of them, after a space
unfoldable pub freed_cell_text : ℕ → List ℕ
freed_cell_text id = codes " " ++ cell_text id

-- the cells that a cycle freed, after a colon; nothing where it freed none
unfoldable pub freed_text : List ℕ → List ℕ
freed_text [] = []
freed_text (id ∷ ids) = codes ":" ++ flat_map freed_cell_text (id ∷ ids)

-- a cycle's number, how many cells lived after its end, and how many it freed
unfoldable pub counts_text : ℕ → ℕ → ℕ → List ℕ
counts_text number kept freed =
    codes "cycle" ++ number_operand number ++ codes " kept" ++ number_operand kept ++ codes " freed" ++ number_operand freed

-- a cycle, with the cells that it freed
unfoldable pub cycle_line : ℕ → ℕ → List ℕ → List ℕ
cycle_line number kept freed = counts_text number kept (length freed) ++ freed_text freed ++ codes "\n"

-- the kind of a cycle, after a space
unfoldable pub kind_text : Bool → List ℕ
kind_text full = if full then codes " full" else codes " Eden"

-- what is told of a cycle behind a text: its number and its kind, how many freezes it went through, and how many cells
-- were born since the end before it until it began, and how many while it marked
unfoldable pub told_text : ℕ → Bool → ℕ → ℕ → ℕ → List ℕ
told_text number full freezes before marking =
    codes "stats" ++ number_operand number ++ kind_text full ++ codes " freezes" ++ number_operand freezes
    ++ codes " born" ++ number_operand before ++ codes " marking" ++ number_operand marking

-- how many cells its pauses made black, and how many the visitors, and the end of the line
unfoldable pub blackened_text : ℕ → ℕ → List ℕ
blackened_text paused visited = codes " paused" ++ number_operand paused ++ codes " visited" ++ number_operand visited ++ codes "\n"

-- the line of a cycle behind a text
unfoldable pub statistics_line : ℕ → Bool → ℕ → ℕ → ℕ → ℕ → ℕ → List ℕ
statistics_line number full freezes before marking paused visited =
    told_text number full freezes before marking ++ blackened_text paused visited

-- the last line: how many cells live at the end
unfoldable pub live_line : ℕ → List ℕ
live_line n = codes "live" ++ number_operand n ++ codes "\n"
