-- The summary of a run: how many calls it made, and how many of them were answered in each way.
use Rattle.std.specs.Prelude.{ℕ, Bool, true, false, List, [], ◌∷◌, ◌++◌, length, filter, codes}
use Rattle.std.specs.List.{flat_map}
use Rattle.tide_model.specs.declared.entry.Entry.{Entry}
use Rattle.tide_model.specs.declared.entry.Entry.TheVariants.{Call}
use Rattle.tide_model.specs.declared.entry.Event.{Event}
use Rattle.tide_model.specs.declared.op.Reply.{Reply}
use Rattle.tide_model.specs.declared.op.Reply.TheVariants.{Done, Born, Seen, Asked, Refused}
use Rattle.tide_model.specs.declared.val.Val.TheVariants.{Empty, Int, Cell}
use Rattle.tide_model.specs.Cycle.{live_count}
use Rattle.tide_model.specs.History.{state_after}
use Rattle.tide_model.specs.Layout.{Layout}
use Rattle.tide_text.specs.declared.counts.Counts.{Counts}
use Rattle.tide_text.specs.lines.Line.{live_line}
use Rattle.tide_text.specs.lines.OpText.{number_operand}

-- the reply of an entry that is a call
abbrev pub reply_in : Entry → List Reply
reply_in (Call who op reply) = reply ∷ []
reply_in _ = []

-- the replies of a history, in order
abbrev pub replies_in : List Event → List Reply
replies_in history = flat_map (λ event. reply_in event.entry) history

-- a cell was born
abbrev pub is_born : Reply → Bool
is_born (Born id) = true
is_born _ = false

-- the operation was done, and there is nothing to tell
abbrev pub is_done : Reply → Bool
is_done Done = true
is_done _ = false

-- a cell was seen
abbrev pub is_cell : Reply → Bool
is_cell (Seen (Cell id)) = true
is_cell _ = false

-- a number was seen
abbrev pub is_int : Reply → Bool
is_int (Seen (Int n)) = true
is_int _ = false

-- nothing was seen where a value may be
abbrev pub is_empty : Reply → Bool
is_empty (Seen Empty) = true
is_empty _ = false

-- a cycle was asked for
abbrev pub is_asked : Reply → Bool
is_asked Asked = true
is_asked _ = false

-- the operation was refused
abbrev pub is_refused : Reply → Bool
is_refused (Refused refusal) = true
is_refused _ = false

-- how many replies are of a kind
abbrev pub how_many : (Reply → Bool) → List Reply → ℕ
how_many is_such replies = length (filter is_such replies)

-- the counts of so many mutators, whose calls were answered so, after which so many cells live
abbrev pub counts_with : ℕ → List Reply → ℕ → Counts
counts_with mutators replies live = record {
  mutators = mutators;
  calls = length replies;
  born = how_many is_born replies;
  ok = how_many is_done replies;
  cell = how_many is_cell replies;
  int = how_many is_int replies;
  empty = how_many is_empty replies;
  asked = how_many is_asked replies;
  refused = how_many is_refused replies;
  live = live;
}

-- the counts of a history
abbrev pub counts_of : Layout → List Event → Counts
counts_of layout history =
    counts_with layout.mutators (replies_in history) (live_count layout (state_after layout history))

-- how many mutators there are, and how many calls they made
unfoldable pub calls_line : Counts → List ℕ
calls_line counts =
    codes "mutators" ++ number_operand counts.mutators ++ codes " calls" ++ number_operand counts.calls ++ codes "\n"

-- how many calls were answered in each way
unfoldable pub replies_line : Counts → List ℕ
replies_line counts =
    codes "born" ++ number_operand counts.born ++ codes " ok" ++ number_operand counts.ok
    ++ codes " cell" ++ number_operand counts.cell ++ codes " int" ++ number_operand counts.int
    ++ codes " empty" ++ number_operand counts.empty ++ codes " asked" ++ number_operand counts.asked
    ++ codes " refused" ++ number_operand counts.refused ++ codes "\n"

-- the three lines of a summary
abbrev pub summary_text : Counts → List ℕ
summary_text counts = calls_line counts ++ replies_line counts ++ live_line counts.live

-- the summary of a run
abbrev pub summary_of : Layout → List Event → List ℕ
summary_of layout history = summary_text (counts_of layout history)
