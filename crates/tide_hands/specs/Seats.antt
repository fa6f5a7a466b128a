-- A seat between two calls, and what a call tells of it.
use Rattle.std.specs.Prelude.{ℕ, ◌≡◌, ◌+◌, true, false, [], ◌∷◌, Option, None, Some}
use Rattle.atomic_table.specs.Table.{Me}
use Rattle.tide_hands.specs.declared.found.Found.{Found}
use Rattle.tide_hands.specs.declared.found.Found.TheVariants.{Nothing, Ticket, End}
use Rattle.tide_hands.specs.declared.view.HandView.{HandView}

-- no slot is out with the seat
abbrev pub IsIdle : {S I : Type 0} → Me S (HandView I) → Type 0
IsIdle me = (me.0.out ≡ 0) × (me.1 ≡ [])

-- of a view what no call changes but the one that seats a member
abbrev pub frame : {I : Type 0} → HandView I → HandView I
frame v = record v {
  out = 0;
  free = [];
  tickets = [];
  notes = [];
  ends = [];
  over = false;
  due = false;
  at = 0;
  found = 0;
  given = 0;
  taken = 0;
}

module _ {T I : Type 0} where
  -- what was found is a ticket, which was taken, so that a note is due, or an end that was posted; or nothing was taken
  abbrev pub IsFound : (T → Type 0) → HandView I → HandView I → Found T → Type 0
  IsFound ticket_ok v w Nothing = (w.taken ≡ v.taken) × (w.over ≡ v.over)
  IsFound ticket_ok v w (Ticket ticket) = ticket_ok ticket × (w.taken ≡ v.taken + 1) × (w.due ≡ true)
  IsFound ticket_ok v w End = (w.over ≡ true) × (w.taken ≡ v.taken)

  -- what came back wasn't posted, and where nothing came back it was, at this place
  abbrev pub IsPosted : ℕ → T → HandView I → HandView I → Option T → Type 0
  IsPosted place parcel v w None = (w.given ≡ v.given + 1) × (w.at ≡ place) × (w.tickets ≡ place ∷ v.tickets)
  IsPosted place parcel v w (Some back) = (back ≡ parcel) × (w.given ≡ v.given) × (w.tickets ≡ v.tickets)
