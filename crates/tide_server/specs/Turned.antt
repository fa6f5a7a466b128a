-- What a turn of a standing heap's keeper makes of the history, and what it answers.
use Rattle.std.specs.Prelude.{ℕ, ◌≡◌, ◌↔◌, ◌+◌, ◌-◌, ◌<◌, ◌≤◌, ◌^◌, true, false, Bool, List, if◌then◌else◌, replicate}
use Rattle.atomic_table.specs.Seated.{TableId}
use Rattle.tide_model.specs.Each.{Each}
use Rattle.tide_model.specs.Lawful.{IsLawful}
use Rattle.tide_model.specs.Layout.{Layout}
use Rattle.tide_model.specs.Periods.{EndsInTime, is_over, open_count, opened}
use Rattle.tide_model.specs.Prefix.{IsPrefix}
use Rattle.tide_model.specs.Refused.{ShapeLists}
use Rattle.tide_model.specs.declared.entry.Event.{Event}
use Rattle.tide_posts.specs.Among.{Among, times}
use Rattle.tide_posts.specs.Name.{places}
use Rattle.tide_posts.specs.Schedule.{ArePeriodsWhere, IsLegalWhere, have_stops}
use Rattle.tide_posts.specs.tide_heap.Parties.{In}
use Rattle.tide_posts.specs.tide_heap.tide_freeze.Books.{AddsEnds, AreBooks}
use Rattle.tide_posts.specs.tide_heap.Turns.{Freezes, opened as opened_view}
use Rattle.tide_posts.specs.tide_heap.tide_core.declared.machine.view.View.{View}
use Rattle.tide_report.specs.Reports.{Reported}
use Rattle.tide_sched.specs.Paces.{pace_of}
use Rattle.tide_server.specs.Keepers.{HasNoEnd, KeeperStands, has_left, ticket_count, view_of}
use Rattle.tide_server.specs.declared.keeper.Keeper.{Keeper}
use Rattle.tide_server.specs.declared.turning.Turn.{Turn}
use Rattle.tide_server.specs.declared.turning.Turn.TheVariants.{Opened, Over, Spent}
use Rattle.tide_table.specs.Standing.{HasCollected, StandsStill}
use Rattle.tide_table.specs.tide_statistics.Sums.{HasSummed}

-- The freeze after the keeper's open part made one more whole period of the history: it goes on from where the part was
-- opened, is lawful, and its cycles end in time. `stopped` says whether some mutator has
-- stopped early in one of the periods.
pub record MakesPeriod (layout : Layout) (shapes : ShapeLists) (k : Keeper) (stopped : Bool) (after : List Event) : Type 0
  where
    pub grows : IsPrefix (view_of k).start after
    pub lawful : IsLawful layout shapes after
    pub stops : List (List Bool)
    pub periods : ArePeriodsWhere (pace_of k.books.pacing) layout stops after
    pub is_stopped : stopped ≡ have_stops layout stops
    pub ends : Each (EndsInTime layout) after

-- A freeze ended the keeper's open part and did what the schedule asks for, in which each mutator has so many calls
-- next. The report has the ends that it entered.
pub record HasFrozenPart (layout : Layout) (shapes : ShapeLists) (is_forced : Bool) (run : ℕ) (old new : Keeper)
    (report longer : Reported) : Type 0 where
  pub stopped : View
  pub freezes : Freezes layout shapes (view_of old) stopped
  pub collected : HasCollected layout shapes (pace_of old.books.pacing) is_forced stopped (view_of new) run
  pub are : AreBooks layout (view_of new).seen new.books
  pub summed : HasSummed (view_of new).seen new.sums
  pub told : AddsEnds layout stopped.seen (view_of new).seen report longer

-- The next part was opened, since some mutator is active still, and a ticket was posted at each place whose participant
-- hasn't left.
pub record HasOpenedPart (layout : Layout) (shapes : ShapeLists) (heap hands : TableId) (old new : Keeper)
    (report longer : Reported) : Type 0 where
  pub after : List Event
  pub makes : MakesPeriod layout shapes old new.stopped after
  pub goes_on : is_over layout after ≡ false
  pub opened : (view_of new).start ≡ opened (pace_of old.books.pacing) layout after
  pub period : (view_of new).period ≡ (view_of old).period + 1
  pub stands : KeeperStands layout heap hands new
  pub posted : new.seat.seat.me.0.given ≡ old.seat.seat.me.0.given + ticket_count layout new.left
  pub told : AddsEnds layout (view_of old).start (view_of new).start report longer

-- A keeper whose heap is frozen for good: all mutators have left, and its history is legal for its pace, its layout and
-- as many visitors as that has, with who stopped early in which part. The keeper says whether somebody did, and its sums
-- are those of the history.
pub record IsFinished (layout : Layout) (shapes : ShapeLists) (heap : TableId) (k : Keeper) : Type 0 where
  pub table : k.collector.seat.table_id ≡ heap
  pub frozen : (view_of k).frozen ≡ true
  pub still : StandsStill layout shapes (view_of k)
  pub summed : HasSummed (view_of k).seen k.sums
  pub gone : (i : ℕ) → i < layout.mutators → In i (view_of k).gone
  pub stops : List (List Bool)
  pub legal : IsLegalWhere (pace_of k.books.pacing) layout shapes stops (view_of k).seen
  pub is_stopped : k.stopped ≡ have_stops layout stops

-- each visitor's place has its end, no other place has one, and nothing else was posted
pub record HasPostedEnds (layout : Layout) (old new : Keeper) : Type 0 where
  pub ends : (place : ℕ) →
      Among place new.seat.seat.me.0.ends ↔ ((layout.mutators ≤ place) × (place < places layout))
  pub over : 0 < layout.visitors → new.seat.seat.me.0.over ≡ true
  pub posted : new.seat.seat.me.0.given ≡ old.seat.seat.me.0.given + layout.visitors

-- no mutator is active any more, and the history is finished with the part that was open
pub record HasFinished (layout : Layout) (shapes : ShapeLists) (heap : TableId) (old new : Keeper)
    (report longer : Reported) : Type 0 where
  pub grows : IsPrefix (view_of old).start (view_of new).seen
  pub parts : open_count (view_of new).seen ≡ (view_of old).period
  pub finished : IsFinished layout shapes heap new
  pub posted : HasPostedEnds layout old new
  pub told : AddsEnds layout (view_of old).start (view_of new).seen report longer

-- some mutator is active, but the part was the last that a word can number
pub record HasSpentParts (layout : Layout) (shapes : ShapeLists) (old new : Keeper) (report longer : Reported)
    : Type 0 where
  pub makes : MakesPeriod layout shapes old new.stopped (view_of new).seen
  pub goes_on : is_over layout (view_of new).seen ≡ false
  pub last : (view_of old).period ≡ 2 ^ 32 - 1
  pub summed : HasSummed (view_of new).seen new.sums
  pub posted : HasPostedEnds layout old new
  pub told : AddsEnds layout (view_of old).start (view_of new).seen report longer

-- what a turn answers
abbrev pub HasTurned : Layout → ShapeLists → TableId → TableId → Keeper → Keeper → Reported → Reported → Turn → Type 0
HasTurned layout shapes heap hands old new report longer Opened =
    HasOpenedPart layout shapes heap hands old new report longer
HasTurned layout shapes heap hands old new report longer Over = HasFinished layout shapes heap old new report longer
HasTurned layout shapes heap hands old new report longer Spent = HasSpentParts layout shapes old new report longer

-- No turn was made yet: the part that was open is, maybe with more notes in, and nothing was posted.
pub record IsWaiting (layout : Layout) (heap hands : TableId) (old new : Keeper) : Type 0 where
  pub stands : KeeperStands layout heap hands new
  pub start : (view_of new).start ≡ (view_of old).start
  pub period : (view_of new).period ≡ (view_of old).period
  pub pacing : new.books.pacing ≡ old.books.pacing
  pub posted : new.seat.seat.me.0.given ≡ old.seat.seat.me.0.given

-- The next part of a frozen heap was opened, in which each mutator has so many calls: no note of it is in, and a ticket
-- was posted at each place whose participant hasn't left.
pub record HasOpenedNextPart (layout : Layout) (run : ℕ) (old new : Keeper) : Type 0 where
  pub opened : view_of new ≡ opened_view layout run (view_of old)
  pub later : (view_of old).period + 1 < 2 ^ 32
  pub none : (new.next ≡ 0) × (new.ended ≡ false) × (new.early ≡ replicate 16 false)
  pub same : (new.left ≡ old.left) × (new.stopped ≡ old.stopped)
  pub sums : new.sums ≡ old.sums
  pub posted : new.seat.seat.me.0.given ≡ old.seat.seat.me.0.given + ticket_count layout old.left
  pub tickets : (place : ℕ) → place < places layout → times place new.seat.seat.me.0.tickets
      ≡ times place old.seat.seat.me.0.tickets + (if has_left layout old.left place then 0 else 1)
  pub notes : new.seat.seat.me.0.notes ≡ old.seat.seat.me.0.notes
  pub due : (place : ℕ) → has_left layout old.left place ≡ true → Among place new.seat.seat.me.0.free
  pub no_end : HasNoEnd new

-- no next part was opened, and the ends were posted
pub record HasClosedParts (layout : Layout) (old new : Keeper) : Type 0 where
  pub view : view_of new ≡ view_of old
  pub sums : new.sums ≡ old.sums
  pub stopped : new.stopped ≡ old.stopped
  pub posted : HasPostedEnds layout old new

-- how the keeper of a frozen heap went on, by whether some mutator is active
abbrev pub HasGoneOn : Layout → ℕ → Bool → Keeper → Keeper → Turn → Type 0
HasGoneOn layout run goes_on old new Opened = (goes_on ≡ true) × HasOpenedNextPart layout run old new
HasGoneOn layout run goes_on old new Over = (goes_on ≡ false) × HasClosedParts layout old new
HasGoneOn layout run goes_on old new Spent =
    (goes_on ≡ true) × ((view_of old).period ≡ 2 ^ 32 - 1) × HasClosedParts layout old new
