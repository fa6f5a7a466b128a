-- A participant between two parts and in one, and what its note of a part tells.
use Rattle.std.specs.Prelude.{ℕ, ◌≡◌, ◌≤◌, ◌<◌, true, false}
use Rattle.tide_server.specs.tide_heap.tide_core.declared.machine.view.View.{View}

-- the participant with this number stands after the part with that number, in which it began last, and hasn't left
pub record IsIdle (who part : ℕ) (v : View) : Type 0 where
  pub is : v.who ≡ who
  pub stopped : v.runs ≡ false
  pub stays : v.left ≡ false
  pub begun : v.begun ≡ part
  pub period : v.period ≡ part

-- the participant stands after a part before the one with this number
abbrev pub IsIdleBefore : ℕ → ℕ → View → Type 0
IsIdleBefore who part v = (last : ℕ) × IsIdle who last v × (last < part)

-- the participant runs in the part with this number, in which it began
pub record IsInPart (who part : ℕ) (v : View) : Type 0 where
  pub is : v.who ≡ who
  pub runs : v.runs ≡ true
  pub stays : v.left ≡ false
  pub begun : v.begun ≡ part
  pub ticket : v.ticket ≡ part
  pub once : v.period < part

-- The note is this participant's, of the part whose ticket this is. It says that the part is done, and tells no more
-- visits than the ticket says, and none where no cycle marks.
pub record HasDoneItsPart (who : ℕ) (ticket note : View) : Type 0 where
  pub is : note.who ≡ who
  pub period : note.period ≡ ticket.period
  pub begun : note.begun ≡ ticket.period
  pub stays : note.left ≡ false
  pub done : note.done ≡ true
  pub few : note.visits ≤ ticket.run
  pub none : ticket.marks ≡ false → note.visits ≡ 0
