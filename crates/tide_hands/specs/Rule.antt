-- The rule of a table by which one keeper and its members hand parcels to each other: a slot and a word for each
-- member.
use Rattle.std.specs.Prelude.{ℕ, suc, pred, ◌≡◌, ◌+◌, ◌<◌, ◌≤◌, ◌==◌, ◌&&◌, ◌||◌, ◌⊎◌, Bool, true, false, List, [], ◌∷◌, length, slice_index, if◌then◌else◌, MatchBool}
use mathlib.Core.Option.{some}
use lib.ListN.{get_elem?}
use Rattle.atomic_table.specs.Table.{State, Step, Me}
use Rattle.tide_hands.specs.Among.{Among, places_below, times, without}
use Rattle.tide_hands.specs.declared.parcel.Parcel.{Parcel}
use Rattle.tide_hands.specs.declared.parcel.Parcel.TheVariants.{Nothing, Ticket, Note}
use Rattle.tide_hands.specs.declared.view.HandView.{HandView}

-- What a word says: 0 a ticket is due, 1 a ticket lies there, 2 it was taken and a note is due, 3 a note lies there, 4
-- none comes any more. At 0 and 3 it is the keeper's turn.
abbrev pub is_keepers : ℕ → Bool
is_keepers word = (word == 0) || (word == 3)

-- the word says that none comes any more
abbrev pub is_end : ℕ → Bool
is_end word = word == 4

-- a ticket, an end or a note is put where one is due
abbrev pub is_post : ℕ → ℕ → Bool
is_post found word = ((found == 0) && ((word == 1) || (word == 4))) || ((found == 2) && (word == 3))

-- a ticket is put where one is due
abbrev pub is_ticket_post : ℕ → ℕ → Bool
is_ticket_post found word = (found == 0) && (word == 1)

-- an end is put where a ticket is due
abbrev pub is_end_post : ℕ → ℕ → Bool
is_end_post found word = (found == 0) && is_end word

-- a ticket or a note is taken from where it lies
abbrev pub is_take : ℕ → ℕ → Bool
is_take found word = ((found == 1) && (word == 2)) || ((found == 3) && (word == 0))

-- a note is taken from where it lies
abbrev pub is_note_take : ℕ → ℕ → Bool
is_note_take found word = (found == 3) && (word == 0)

-- what a seat may make of the word that it found: it leaves that as it is, posts or takes
abbrev pub is_move : ℕ → ℕ → Bool
is_move found word = (found == word) || (is_post found word || is_take found word)

-- how many tickets lie there, by the word: one or none
abbrev pub lying : ℕ → ℕ
lying word = if word == 1 then 1 else 0

module _ {I : Type 0} where
  -- the word names the side of this view's seat
  abbrev pub is_turn : HandView I → ℕ → Bool
  is_turn v word = if v.keeper then is_keepers word else (if is_keepers word then false else true)

  -- the keeper's first view of a table with so many places
  abbrev pub keeper_view : I → ℕ → HandView I
  keeper_view name count = record {
    keeper = true;
    place = 0;
    out = 0;
    next = 0;
    free = places_below count;
    tickets = [];
    notes = [];
    ends = [];
    over = false;
    due = false;
    at = 0;
    found = 0;
    given = 0;
    taken = 0;
    name = name;
  }

  -- a keeper's view with one more member seated, and that member's first view
  abbrev pub keeper_after : HandView I → HandView I
  keeper_after v = record v { next = v.next + 1 }

  abbrev pub member_view : HandView I → HandView I
  member_view v = record (keeper_view v.name 0) { keeper = false; place = v.next }

  -- a seat has found a word at its turn, and has the slot of a place
  abbrev pub holding : ℕ → ℕ → HandView I → HandView I
  holding place word v = record v { out = suc place; over = v.over || is_end word; at = place; found = word }

  -- a seat has stored a word, and given its slot home
  abbrev pub resting : ℕ → HandView I → HandView I
  resting word v = record v {
    out = 0;
    free = if word == 0 then pred v.out ∷ v.free else without (pred v.out) v.free;
    tickets = if is_ticket_post v.found word then pred v.out ∷ v.tickets else v.tickets;
    notes = if is_note_take v.found word then pred v.out ∷ v.notes else v.notes;
    ends = if is_end_post v.found word then pred v.out ∷ v.ends else v.ends;
    over = v.over || is_end word;
    due = word == 2;
    given = v.given + (if is_post v.found word then 1 else 0);
    taken = v.taken + (if is_take v.found word then 1 else 0);
  }

  -- the number of the last ticket that was posted at a place, as the seat can tell that has found its word
  abbrev pub round_at : ℕ → HandView I → ℕ
  round_at place v = if v.keeper then times place v.tickets else v.taken + lying v.found

  -- and once that has stored a word there
  abbrev pub round_after : ℕ → ℕ → HandView I → ℕ
  round_after place word v = round_at place v + (if is_ticket_post v.found word then 1 else 0)

module _ {T N I : Type 0} (ticket_ok : I → ℕ → T → Type 0) (note_ok : I → ℕ → ℕ → N → Bool → Type 0) (name : I) where
  -- what lies in a slot at home, by its word and by the number of the place's last ticket
  abbrev pub Content : ℕ → ℕ → ℕ → Parcel T N → Type 0
  Content place round word Nothing = (word ≡ 0) ⊎ (word ≡ 2) ⊎ (word ≡ 4)
  Content place round word (Ticket ticket) = (word ≡ 1) × ticket_ok name round ticket
  Content place round word (Note note flag) = (word ≡ 3) × note_ok name place round note flag

  -- a seat holds the one slot of a place, with what may lie there by a word
  pub record Lies (place round word : ℕ) (slots : List (ℕ × Parcel T N)) : Type 0 where
    pub parcel : Parcel T N
    pub is : slots ≡ (place, parcel) ∷ []
    pub content : Content place round word parcel

  -- the slot is at home
  pub record IsHome (s : State (Parcel T N) (HandView I)) (taken : ℕ → ℕ) (place : ℕ) : Type 0 where
    pub parcel : Parcel T N
    pub at : get_elem? s.homes place ≡ some (some parcel)
    pub content : Content place (taken place + lying (slice_index s.words place)) (slice_index s.words place) parcel

  -- the seat whose turn it is holds the slot
  pub record IsOut (s : State (Parcel T N) (HandView I)) (place : ℕ) : Type 0 where
    pub seat : ℕ
    pub view : HandView I
    pub is : get_elem? s.views seat ≡ some view
    pub out : view.out ≡ suc place

  -- what a seat's view says; `over` is whether the keeper has posted an end, and `taken` how many tickets were taken at
  -- each place
  pub record SeatOk (count next : ℕ) (over : Bool) (taken seats : ℕ → ℕ) (words : List ℕ) (seat : ℕ)
      (view : HandView I) : Type 0 where
    pub named : view.name ≡ name
    pub keeper : view.keeper ≡ true → (seat ≡ 0) × (view.next ≡ next) × (view.over ≡ over)
    pub member : view.keeper ≡ false → (view.place < count) × (view.place < next) × (seats view.place ≡ seat)
    -- a ticket is due where the keeper knows so
    pub free : view.keeper ≡ true → (place : ℕ) → Among place view.free →
        (place < count) × (slice_index words place ≡ 0)
    -- of the tickets that it posted each was taken, but for one that lies there
    pub posted : view.keeper ≡ true → (place : ℕ) →
        times place view.tickets ≡ taken place + lying (slice_index words place)
    -- a member knows how many it took
    pub took : view.keeper ≡ false → view.taken ≡ taken view.place
    -- where it holds a slot the word is the one that it found
    pub found : (place : ℕ) → view.out ≡ suc place → view.found ≡ slice_index words place
    -- it knows of an end only where one was posted
    pub heard : view.over ≡ true → over ≡ true
    -- it holds a slot only at its turn, a member its own
    pub own : (place : ℕ) → view.out ≡ suc place → (place < count) × (is_turn view (slice_index words place) ≡ true)
    pub its : (place : ℕ) → view.keeper ≡ false → view.out ≡ suc place → place ≡ view.place
    -- where its note is due, nobody else changes the word
    pub due : view.keeper ≡ false → view.due ≡ true → slice_index words view.place ≡ 2

  pub record Rule (count : ℕ) (s : State (Parcel T N) (HandView I)) : Type 0 where
    -- which seat each member has
    pub seats : ℕ → ℕ
    -- how many members have a seat
    pub next : ℕ
    -- whether the keeper has posted an end
    pub over : Bool
    -- how many tickets were taken at each place: none where no member has a seat
    pub taken : ℕ → ℕ
    pub none : (place : ℕ) → next ≤ place → taken place ≡ 0
    pub words : length s.words ≡ count
    pub homes : length s.homes ≡ count
    pub each : (seat : ℕ) (view : HandView I) → get_elem? s.views seat ≡ some view →
        SeatOk count next over taken seats s.words seat view
    pub place : (place : ℕ) → place < count → IsHome s taken place ⊎ IsOut s place
    pub ended : (place : ℕ) → place < count → is_end (slice_index s.words place) ≡ true → over ≡ true

  -- the slot was taken, with what lies in it
  pub record TookSlot (place word : ℕ) (me after : Me (Parcel T N) (HandView I)) : Type 0 where
    pub parcel : Parcel T N
    pub content : Content place (round_at place (holding place word me.0)) word parcel
    pub is : after ≡ (holding place word me.0, (place, parcel) ∷ [])

  -- what a look tells: a member whose note is due finds that, and the keeper where it knows that a ticket is due; at
  -- the turn of its seat the slot is taken
  abbrev pub Looked : Step (Parcel T N) → Me (Parcel T N) (HandView I) → ℕ → Me (Parcel T N) (HandView I) → Type 0
  Looked step me found after = (me.0.keeper ≡ false → me.0.due ≡ true → found ≡ 2)
      × MatchBool (is_turn me.0 found) (TookSlot step.word found me after) (after ≡ me)
      × (me.0.keeper ≡ true → Among step.word me.0.free → found ≡ 0)

  -- what a store tells that gives the slot home
  abbrev pub Gave : Step (Parcel T N) → Me (Parcel T N) (HandView I) → ℕ → Me (Parcel T N) (HandView I) → Type 0
  Gave step me stored after = after ≡ (resting stored me.0, [])
