-- The keeper of a standing heap, between two of its turns.
use Rattle.std.specs.Prelude.{ℕ, ◌≡◌, ◌≤◌, ◌<◌, ◌+◌, ◌-◌, ◌⊎◌, ◌↔◌, ◌&&◌, ◌||◌, Bool, true, false, not, Contains, List, [], None, Some, get_or, if◌then◌else◌, nat_lt}
use Rattle.atomic_table.specs.Seated.{TableId}
use Rattle.tide_model.specs.Freeze.{marks_after}
use Rattle.tide_model.specs.History.{state_after}
use Rattle.tide_model.specs.Layout.{Layout}
use Rattle.tide_model.specs.Numbers.{any_below, count_where}
use Rattle.tide_model.specs.Periods.{is_over, opened}
use Rattle.tide_model.specs.declared.entry.Event.{Event}
use Rattle.tide_posts.specs.Name.{places}
use Rattle.tide_posts.specs.Posts.{MutatorTells}
use Rattle.tide_posts.specs.Schedule.{ArePeriodsWhere, has_stop, have_stops}
use Rattle.tide_posts.specs.Shares.{HasMarked}
use Rattle.tide_posts.specs.Among.{Among, times}
use Rattle.tide_posts.specs.tide_heap.Parties.{In}
use Rattle.tide_posts.specs.tide_heap.Turns.{calls_of}
use Rattle.tide_posts.specs.tide_heap.tide_core.declared.machine.view.View.{View}
use Rattle.tide_posts.specs.tide_heap.tide_core.machine.World.{first_visitor}
use Rattle.tide_sched.specs.Paces.{pace_of}
use Rattle.tide_server.specs.declared.keeper.Keeper.{Keeper}
use Rattle.tide_table.specs.Standing.{RunsWith}
use Rattle.tide_table.specs.VisitsTold.{HaveTold, told_by}
use Rattle.tide_table.specs.tide_statistics.Sums.{HasSummed}

-- the collector of the heap with this layout and this table, which has the keeper's seat of this table of hands
pub record IsKeeperOf (layout : Layout) (heap hands : TableId) (k : Keeper) : Type 0 where
  pub table : k.collector.seat.table_id ≡ heap
  pub seated : k.seat.seat.table_id ≡ hands
  pub named : k.seat.seat.me.0.name ≡ record { layout = layout; table_id = heap }

-- who is at a place is a mutator that has left for good, as far as this list tells
abbrev pub has_left : Layout → List Bool → ℕ → Bool
has_left layout left place = nat_lt place layout.mutators && get_or left place false

-- how many participants get a ticket
abbrev pub ticket_count : Layout → List Bool → ℕ
ticket_count layout left = count_where (λ place. not (has_left layout left place)) (places layout)

-- what the keeper's collector knows of the heap
abbrev pub view_of : Keeper → View
view_of k = k.collector.seat.me.0

-- A note is in: the collector has its participant's number, what it tells of calls, and whether its participant has
-- left for good.
pub record NoteIsIn (v note : View) : Type 0 where
  pub who : In note.who v.notes
  pub calls : Contains v.noted_calls (calls_of note)
  pub left : (note.left ≡ true) ↔ In note.who v.gone

-- a mutator's note of the open part is in, which tells its share, and whether its last call ended that, or it stopped
-- early
pub record HasToldShare (v : View) (who : ℕ) (ended early : Bool) : Type 0 where
  pub note : View
  pub is : note.who ≡ who
  pub period : note.period ≡ v.period
  pub tells : MutatorTells note ended early
  pub is_in : NoteIsIn v note

-- a mutator had left for good before the part was opened
pub record HadLeft (layout : Layout) (v : View) (who : ℕ) : Type 0 where
  pub gone : In who v.gone
  pub inactive : (state_after layout v.start).active who ≡ false

-- a mutator's note of the open part is in, or the mutator had left before
abbrev pub MutatorIsIn : Layout → View → ℕ → Bool → Bool → Type 0
MutatorIsIn layout v who ended early =
    HasToldShare v who ended early ⊎ (HadLeft layout v who × (ended ≡ false) × (early ≡ false))

-- a visitor's note of the open part is in, which tells its visits, and that it has done its part
pub record HasToldVisits (layout : Layout) (v : View) (visitor : ℕ) : Type 0 where
  pub note : View
  pub is : note.who ≡ first_visitor + visitor
  pub period : note.period ≡ v.period
  pub marked : HasMarked layout note.period note.run note.marks note.seen note.visits
  pub is_in : NoteIsIn v note
  pub told : told_by (first_visitor + visitor) v.visited
      ≡ Some (record { who = first_visitor + visitor; visits = note.visits; done = true })

-- The notes of the open part are in of all places below this one, and no others of it. `ended` says whether one of them
-- tells that its mutator's last call ended its share, and `early` which mutators' notes tell that they stopped early.
pub record NotesAreIn (layout : Layout) (v : View) (next : ℕ) (ended : Bool) (early : List Bool) : Type 0 where
  pub ended_by : ℕ → Bool
  pub is_ended : ended ≡ any_below ended_by next
  pub mutators : (who : ℕ) → who < next → who < layout.mutators →
      MutatorIsIn layout v who (ended_by who) (get_or early who false)
  pub visitors : (visitor : ℕ) → layout.mutators + visitor < next → HasToldVisits layout v visitor
  pub none_ends : (place : ℕ) → layout.mutators ≤ place → ended_by place ≡ false
  pub none_early : (who : ℕ) → next ≤ who → get_or early who false ≡ false
  pub most : ℕ
  pub visits : HaveTold most (next - layout.mutators) v.visited
  pub later : (visitor : ℕ) → next - layout.mutators ≤ visitor → told_by (first_visitor + visitor) v.visited ≡ None
  pub done : v.done ≡ true

-- `left` says which mutators have left for good, as far as notes tell that are in, and nobody else has. Whose note
-- isn't in, and who has left, had left before the part was opened.
pub record AreLeft (layout : Layout) (v : View) (next : ℕ) (left : List Bool) : Type 0 where
  pub are : (who : ℕ) → In who v.gone → who < layout.mutators
  pub known : (who : ℕ) → who < layout.mutators → (get_or left who false ≡ true) ↔ In who v.gone
  pub early : (who : ℕ) → who < layout.mutators → next ≤ who → In who v.gone →
      (state_after layout v.start).active who ≡ false

-- no end was posted
abbrev pub HasNoEnd : Keeper → Type 0
HasNoEnd k = (k.seat.seat.me.0.over ≡ false) × (k.seat.seat.me.0.ends ≡ [])

-- A keeper whose part is open. It was opened behind whole periods, after which some mutator was active; the notes of
-- some places are in, and there a ticket is due, as it is where who has left was; and no end was posted.
pub record KeeperStands (layout : Layout) (heap hands : TableId) (k : Keeper) : Type 0 where
  pub of : IsKeeperOf layout heap hands k
  pub runs : RunsWith layout k.books (view_of k)
  pub summed : HasSummed (view_of k).start k.sums
  pub before : List Event
  pub stops : List (List Bool)
  pub periods : ArePeriodsWhere (pace_of k.books.pacing) layout stops before
  pub stopped : k.stopped ≡ (have_stops layout stops || has_stop layout k.early)
  pub goes_on : is_over layout before ≡ false
  pub opened : (view_of k).start ≡ opened (pace_of k.books.pacing) layout before
  pub marking : (view_of k).marks ≡ marks_after layout (view_of k).start
  pub within : k.next ≤ places layout
  pub notes : NotesAreIn layout (view_of k) k.next k.ended k.early
  pub left : AreLeft layout (view_of k) k.next k.left
  pub due : (place : ℕ) → (place < k.next) ⊎ (has_left layout k.left place ≡ true) → Among place k.seat.seat.me.0.free
  -- who hasn't left got a ticket of each part so far, and of each the note was taken, but for those of the open part that
  -- are out
  pub rounds : (place : ℕ) → place < places layout → has_left layout k.left place ≡ false →
      times place k.seat.seat.me.0.tickets ≡ (view_of k).period
  pub noted : (place : ℕ) → place < places layout → has_left layout k.left place ≡ false →
      times place k.seat.seat.me.0.notes + (if nat_lt place k.next then 0 else 1) ≡ (view_of k).period
  pub no_end : HasNoEnd k
