-- What a turn answers, by what the freeze made of the part, and how the keeper went on.
use Rattle.std.proofs.Common.{ℕ, ◌≡◌, ◌+◌, ◌∙◌, sym, ap, Bool, false, List, not, get_or}
use Rattle.std.specs.Prelude.{if◌then◌else◌}
use Rattle.atomic_table.specs.Seated.{TableId}
use Rattle.tide_model.specs.Layout.{Layout}
use Rattle.tide_model.specs.Numbers.{any_below}
use Rattle.tide_model.specs.History.{state_after}
use Rattle.tide_model.specs.Refused.{ShapeLists}
use Rattle.tide_posts.specs.Among.{times}
use Rattle.tide_posts.specs.Name.{Name, places}
use Rattle.tide_posts.specs.declared.handed.HandedIn.{HandedIn}
use Rattle.tide_posts.specs.tide_hands.declared.keeper.KeeperSeat.{KeeperSeat}
use Rattle.tide_posts.specs.tide_heap.declared.steps.notes.Ticket.{Ticket}
use Rattle.tide_posts.specs.tide_heap.tide_core.declared.machine.view.View.{View}
use Rattle.tide_posts.specs.tide_heap.tide_freeze.declared.books.Books.{Books}
use Rattle.tide_report.specs.Reports.{Reported}
use Rattle.tide_server.proofs.First.{none_left}
use Rattle.tide_server.proofs.Freezes.{HasFinished-frozen, HasOpenedPart-frozen, HasSpentParts-frozen, start_is}
use Rattle.tide_server.specs.Keepers.{IsKeeperOf, KeeperStands, has_left, ticket_count, view_of}
use Rattle.tide_server.specs.Looked.{HasSnapshot}
use Rattle.tide_server.specs.Turned.{HasFrozenPart, HasGoneOn, HasPostedEnds, HasTurned, MakesPeriod}
use Rattle.tide_server.specs.declared.keeper.Keeper.{Keeper}
use Rattle.tide_server.specs.declared.turning.Turn.{Turn}
use Rattle.tide_server.specs.declared.turning.Turn.TheVariants.{Opened, Over, Spent}
use Rattle.tide_snapshot.specs.tide_retained.Holding.{IsSnapshotOf}
use Rattle.tide_snapshot.specs.tide_retained.declared.contents.Contents.{Contents}

abbrev Seat : Type 0
Seat = KeeperSeat Ticket HandedIn Name

-- `new` has what the schedule made of the part of `k`, and `final` how that went on
module _ (layout : Layout) (shapes : ShapeLists) (heap hands : TableId) (k : Keeper)
    (stands : KeeperStands layout heap hands k) (all : k.next ≡ places layout) (forces : Bool) (run : ℕ) (new : Keeper)
    (report longer : Reported) (did : HasFrozenPart layout shapes forces run k new report longer) (goes_on : Bool)
    (goes : goes_on ≡ any_below (λ who. not (get_or k.left who false)) layout.mutators)
    (makes : MakesPeriod layout shapes k k.stopped (view_of new).seen) (pacing : new.books.pacing ≡ k.books.pacing)
    (seat : new.seat ≡ k.seat) (left : new.left ≡ k.left) (stopped : new.stopped ≡ k.stopped) (final : Keeper)
    (books : final.books ≡ new.books) (of : IsKeeperOf layout heap hands final) where
  abbrev given : HasPostedEnds layout new final → HasPostedEnds layout k final
  given posted = record {
    ends = posted.ends;
    over = posted.over;
    posted = posted.posted ∙ ap (λ (q : Seat). q.seat.me.0.given + layout.visitors) seat;
  }

  pub HasTurned-on : (turn : Turn) → HasGoneOn layout run goes_on new final turn →
      HasTurned layout shapes heap hands k final report longer turn
  HasTurned-on Over went =
      HasFinished-frozen layout shapes heap hands k stands all forces run new report longer did final went.1.view
      (ap (λ (b : Books). b.pacing) books ∙ pacing) went.1.sums (went.1.stopped ∙ stopped) of.table makes (sym goes ∙ went.0) (given went.1.posted)
  HasTurned-on Spent went =
      HasSpentParts-frozen layout shapes heap hands k stands all forces run new report longer did final went.2.view
      went.2.sums (went.2.stopped ∙ stopped) makes (sym goes ∙ went.0) went.1 (given went.2.posted)
  HasTurned-on Opened went =
      let next = went.1 in
      HasOpenedPart-frozen layout shapes heap hands k stands all forces run new report longer did final next.opened
      next.later books next.sums pacing of next.none.0 next.none.1 (next.same.0 ∙ left) (next.same.1 ∙ stopped)
      (λ who. ap (λ (l : List Bool). get_or l who false) next.none.2 ∙ none_left 16 who) next.no_end
      (next.posted ∙ (λ i. (seat i).seat.me.0.given + ticket_count layout (left i)))
      (λ place is. next.due place (ap (λ (l : List Bool). has_left layout l place) left ∙ is))
      (λ place below. next.tickets place below
      ∙ (λ i. times place (seat i).seat.me.0.tickets + (if has_left layout (left i) place then 0 else 1)))
      (next.notes ∙ ap (λ (q : Seat). q.seat.me.0.notes) seat) makes (sym goes ∙ went.0)

  -- a snapshot that was taken before the keeper went on
  pub HasSnapshot-on : (turn : Turn) (snapshot : Contents) → HasGoneOn layout run goes_on new final turn →
      IsSnapshotOf layout (state_after layout (view_of new).seen) snapshot → HasSnapshot layout k final turn snapshot
  HasSnapshot-on Over snapshot went is = record {
    after = (view_of new).seen;
    is_frozen = ap (λ (x : View). x.seen) went.1.view;
    is = is;
  }
  HasSnapshot-on Spent snapshot went is = record {
    after = (view_of new).seen;
    is_frozen = ap (λ (x : View). x.seen) went.2.view;
    is = is;
  }
  HasSnapshot-on Opened snapshot went is = record {
    after = (view_of new).seen;
    is_frozen = start_is layout shapes heap hands k stands all forces run new report longer did final went.1.opened
        went.1.later books went.1.sums pacing;
    is = is;
  }
