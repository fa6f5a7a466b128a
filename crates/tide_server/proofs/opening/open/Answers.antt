-- The keeper of a heap that was opened stands, and each participant has its ticket.
use Rattle.std.proofs.Common.{◌≡◌, ◌<◌, ◌∙◌, ap, arith, subst, sym, []}
use Rattle.std.specs.Prelude.{if◌then◌else◌}
use Rattle.tide_model.specs.Layout.{Layout}
use Rattle.tide_posts.specs.Among.{Among}
use Rattle.tide_posts.specs.Name.{Name, places}
use Rattle.tide_posts.specs.tide_hands.declared.keeper.KeeperSeat.{KeeperSeat}
use Rattle.tide_posts.specs.tide_hands.declared.view.HandView.{HandView}
use Rattle.tide_posts.specs.tide_heap.Turns.{opened}
use Rattle.tide_posts.specs.declared.handed.HandedIn.{HandedIn}
use Rattle.tide_posts.specs.tide_heap.declared.steps.notes.Ticket.{Ticket}
use Rattle.tide_posts.specs.tide_heap.tide_freeze.Books.{AreBooks}
use Rattle.tide_posts.specs.tide_heap.tide_freeze.declared.books.Books.{Books}
use Rattle.tide_sched.specs.declared.pacing.Pacing.{Pacing}
use Rattle.tide_server.proofs.First.{KeeperStands-first, ticket_count-first}
use Rattle.tide_server.specs.Keepers.{has_left, ticket_count}
use Rattle.tide_table.specs.tide_statistics.Sums.{HasSummed}
use Rattle.tide_server.proofs.opening.open.Goals as goal

pub open_first-requires-clause-due : goal.open_first-requires-clause-due
open_first-requires-clause-due g c = λ place below.
    let layout : c.in_ok-standing.standing.heap.key.layout ≡ c.args.start.heap.key.layout =
    λ i. (c.in_ok-standing.ensures.heap i).key.layout in
    let free = ap (λ (s : KeeperSeat Ticket HandedIn Name). s.seat.me.0.free) c.new-keeper.ensures.seat
    ∙ ap (λ (v : HandView Name). v.free) c.in_ok-helpers.ensures.kept
    ∙ ap (λ (v : HandView Name). v.free) c.in_ok-members.ensures.kept in
    subst (Among place) (sym free)
    (c.in_ok-standing.ensures.due place (subst (λ (l : Layout). place < places l) layout below))

pub returns-clause-stands : goal.returns-clause-stands
returns-clause-stands g c = λ many.
    let start = c.args.start in
    let layout = start.heap.key.layout in
    let k = c.open_first.new.self in
    let did = c.open_first.ensures in
    let same = c.in_ok-standing.ensures.heap in
    let nothing = c.new-keeper.ensures.nothing in
    let books = did.books ∙ c.new-keeper.ensures.books in
    let calls : k.books.pacing.calls ≡ c.args.pacing.calls =
    ap (λ (b : Books). b.pacing.calls) books ∙ ap (λ (p : Pacing). p.calls) c.in_ok-books.ensures.pacing in
    let some : 0 < k.books.pacing.calls = (let least = c.args.pacing.calls_least in omega (arith, least, calls)) in
    KeeperStands-first layout (g.S.ShapeTable.lists start.heap.key.shapes) start.heap.table.shared.table_id
    c.in_ok-standing.standing.hands.shared.table_id k start.collector.seat.me.0 c.requires.started some
    (did.opened ∙ (λ i. opened (same i).key.layout (sym calls i) (c.new-keeper.ensures.collector i).seat.me.0)) many
    (subst (AreBooks layout []) (sym books)
    (subst (λ (l : Layout). AreBooks l [] c.in_ok-books.books) c.layout.ensures c.in_ok-books.ensures.are))
    (record {
      table = did.of.table ∙ (λ i. (same i).table.shared.table_id);
      seated = did.of.seated;
      named = did.of.named ∙ (λ i. record { layout = (same i).key.layout; table_id = (same i).table.shared.table_id });
    })
    (did.same.0 ∙ nothing.0) (did.same.1 ∙ nothing.1) (did.same.2 ∙ nothing.2) (did.early.0 ∙ c.new-keeper.ensures.nobody.0)
    (did.early.1 ∙ c.new-keeper.ensures.nobody.1)
    (λ place is. did.due place ((λ i. has_left (same i).key.layout (sym did.same.2 i) place) ∙ is))
    (λ place below. did.tickets place (subst (λ (l : Layout). place < places l) (λ i. (sym same i).key.layout) below)
    ∙ (λ i. if has_left (same i).key.layout (sym did.same.2 i) place then 0 else 1))
    (did.notes ∙ ap (λ (s : KeeperSeat Ticket HandedIn Name). s.seat.me.0.notes) c.new-keeper.ensures.seat
    ∙ ap (λ (v : HandView Name). v.notes) c.in_ok-helpers.ensures.kept
    ∙ ap (λ (v : HandView Name). v.notes) c.in_ok-members.ensures.kept ∙ c.in_ok-standing.ensures.nothing.4) (
      did.over ∙ ap (λ (s : KeeperSeat Ticket HandedIn Name). s.seat.me.0.over) c.new-keeper.ensures.seat
          ∙ ap (λ (v : HandView Name). v.over) c.in_ok-helpers.ensures.kept
          ∙ ap (λ (v : HandView Name). v.over) c.in_ok-members.ensures.kept ∙ c.in_ok-standing.ensures.nothing.0,
      did.ends ∙ ap (λ (s : KeeperSeat Ticket HandedIn Name). s.seat.me.0.ends) c.new-keeper.ensures.seat
          ∙ ap (λ (v : HandView Name). v.ends) c.in_ok-helpers.ensures.kept
          ∙ ap (λ (v : HandView Name). v.ends) c.in_ok-members.ensures.kept ∙ c.in_ok-standing.ensures.nothing.1,
    )
    (subst (HasSummed []) (sym did.sums) c.new-keeper.ensures.sums)

pub returns-clause-posted : goal.returns-clause-posted
returns-clause-posted g c =
    let layout = c.args.start.heap.key.layout in
    let here = c.in_ok-standing.standing.heap.key.layout in
    let old = c.new-keeper.result in
    let same = c.in_ok-standing.ensures.heap in
    let left = c.new-keeper.ensures.nothing.2 in
    let none : old.seat.seat.me.0.given ≡ 0 =
    ap (λ (s : KeeperSeat Ticket HandedIn Name). s.seat.me.0.given) c.new-keeper.ensures.seat
    ∙ ap (λ (v : HandView Name). v.given) c.in_ok-helpers.ensures.kept
    ∙ ap (λ (v : HandView Name). v.given) c.in_ok-members.ensures.kept ∙ c.in_ok-standing.ensures.nothing.2 in
    let all : ticket_count here old.left ≡ places layout =
    (λ i. ticket_count (same i).key.layout (left i)) ∙ ticket_count-first layout 16 in
    let posted = c.open_first.ensures.posted in
    omega (arith, posted, none, all)

pub open_first-requires-clause-none : goal.open_first-requires-clause-none
open_first-requires-clause-none g c =
    ap (λ (s : KeeperSeat Ticket HandedIn Name). s.seat.me.0.tickets) c.new-keeper.ensures.seat
    ∙ ap (λ (v : HandView Name). v.tickets) c.in_ok-helpers.ensures.kept
    ∙ ap (λ (v : HandView Name). v.tickets) c.in_ok-members.ensures.kept ∙ c.in_ok-standing.ensures.nothing.3
