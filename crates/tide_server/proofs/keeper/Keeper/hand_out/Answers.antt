-- Each ticket tells what the keeper's view does.
use Rattle.std.proofs.Common.{ℕ, ◌≡◌, ◌+◌, ◌<◌, ◌∙◌, true, false, Option, arith, ap, refl, rules, sym, subst}
use Rattle.tide_posts.specs.Posts.{IsTicketFor, TicketTells}
use Rattle.tide_posts.specs.Name.{Name, places}
use Rattle.tide_posts.specs.tide_hands.Seats.{IsPosted}
use Rattle.tide_posts.specs.tide_hands.declared.view.HandView.{HandView}
use Rattle.tide_posts.specs.tide_heap.declared.steps.notes.Ticket.{Ticket}
use Rattle.tide_posts.specs.Among.{times}
use Rattle.tide_posts.specs.tide_heap.tide_core.declared.machine.view.View.{View}
use Rattle.tide_server.proofs.Handing.{ahead-more, due-more, got-all, got-left, got-none, got-one, has_left-below, posted-none, posted-one}
use Rattle.tide_server.specs.Keepers.{has_left}
use Rattle.tide_server.proofs.keeper.Keeper.hand_out.Goals as goal

pub post_ticket-requires-clause-ticket : goal.post_ticket-requires-clause-ticket
post_ticket-requires-clause-ticket g c =
    let heap = c.args.standing.now.heap in
    let layout = heap.key.layout in
    let name : Name = record { layout = layout; table_id = heap.table.shared.table_id } in
    let so = c.loop-place.invariant in
    let told = c.ticket-ticket.ensures.ticket in
    let tells = subst (TicketTells layout) (sym so.view) c.requires.tells in
    let place = c.loop-place.place in
    let left = c.args.self.now.left in
    let isnt : has_left layout left place ≡ false =
    (λ i. has_left (sym c.layout-layout.ensures i) (sym so.left i) place) ∙ sym c.has_left.ensures ∙ c.if-has_left.false in
    let below : place < places layout = search rules in
    let next = c.requires.rounds place below isnt in
    let were = so.tickets place in
    let none = got-none layout left place place (omega arith) in
    let period = ap (λ (v : View). v.period) told.1 ∙ ap (λ (v : View). v.period) so.view in
    subst (λ (n : Name). IsTicketFor n (times place c.loop-place.self.seat.seat.me.0.tickets + 1) c.ticket-ticket.result)
    (sym so.of.named) record {
      of_heap = told.0 ∙ so.of.table;
      part = omega (arith, next, were, none, period);
      tells = subst (TicketTells layout) (sym told.1) record {
        opening = tells.opening;
        periods = tells.periods;
        some = tells.some;
        marking = tells.marking;
      };
    }

pub loop-place-init : goal.loop-place-init
loop-place-init g c = record {
  of = c.requires.of;
  view = refl;
  books = refl;
  sums = refl;
  over = refl;
  ends = refl;
  tickets = λ q. (let none = got-none c.args.standing.now.heap.key.layout c.args.self.now.left 0 q (omega arith) in omega (arith, none));
  notes = refl;
  posted = (let same : c.args.self.now.seat.seat.me.0.given ≡ c.args.self.now.seat.seat.me.0.given + 0 = omega arith in same);
  ahead = λ place from below. c.requires.due place below;
  due = λ place is. c.requires.due place (let below = has_left-below c.args.standing.now.heap.key.layout c.args.self.now.left place is in omega (arith, below));
  next = refl;
  ended = refl;
  left = refl;
  early = (refl, refl);
}

pub loop-place-preserved-then-has_left : goal.loop-place-preserved-then-has_left
loop-place-preserved-then-has_left g c =
    let so = c.loop-place.invariant in
    let layout = c.args.standing.now.heap.key.layout in
    let place = c.loop-place.place in
    let left = c.args.self.now.left in
    let has : has_left layout left place ≡ true =
    (λ i. has_left (sym c.layout-layout.ensures i) (sym so.left i) place) ∙ sym c.has_left.ensures ∙ c.if-has_left.true in
    record {
      of = so.of;
      view = so.view;
      books = so.books;
      sums = so.sums;
      over = so.over;
      ends = so.ends;
      tickets = λ q. so.tickets q ∙ ap (λ (n : ℕ). times q c.args.self.now.seat.seat.me.0.tickets + n)
          (sym (got-left layout left place q has));
      notes = so.notes;
      posted = posted-none layout left place c.args.self.now.seat.seat.me.0.given c.loop-place.self.seat.seat.me.0.given so.posted has;
      ahead = λ q later below. so.ahead q (omega (arith, later)) below;
      due = so.due;
      next = so.next;
      ended = so.ended;
      left = so.left;
      early = so.early;
    }

pub loop-place-preserved : goal.loop-place-preserved
loop-place-preserved g c =
    let so = c.loop-place.invariant in
    let layout = c.args.standing.now.heap.key.layout in
    let place = c.loop-place.place in
    let left = c.args.self.now.left in
    let isnt : has_left layout left place ≡ false =
    (λ i. has_left (sym c.layout-layout.ensures i) (sym so.left i) place) ∙ sym c.has_left.ensures ∙ c.if-has_left.false in
    let post = c.post_ticket.ensures in
    let was = c.loop-place.self.seat.seat.me.0 in
    let now = c.post_ticket.new.self.seat.me.0 in
    let below : place < places layout = search rules in
    let posted = subst (λ (back : Option Ticket). IsPosted place c.ticket-ticket.result was now back)
    (post.sure (so.ahead place (omega arith) below)) post.posted in
    record {
      of = record {
        table = c.ticket-ticket.ensures.same.0 ∙ so.of.table;
        seated = post.same.0 ∙ so.of.seated;
        named = ap (λ (h : HandView Name). h.name) post.kept ∙ so.of.named;
      };
      view = c.ticket-ticket.ensures.same.2 ∙ so.view;
      books = so.books;
      sums = so.sums;
      over = post.over ∙ so.over;
      ends = post.ends ∙ so.ends;
      tickets = λ q. got-one layout left place q c.args.self.now.seat.seat.me.0.tickets was.tickets now.tickets isnt posted.2
          (so.tickets q);
      notes = post.taken.1 ∙ so.notes;
      posted = posted-one layout left place c.args.self.now.seat.seat.me.0.given was.given so.posted now.given isnt posted.0;
      ahead = ahead-more layout left place was.free now.free post.free so.ahead;
      due = due-more layout left place was.free now.free post.free isnt so.due;
      next = so.next;
      ended = so.ended;
      left = so.left;
      early = so.early;
    }

pub returns-clause-tickets : goal.returns-clause-tickets
returns-clause-tickets g c = λ q below.
    let layout = c.args.standing.now.heap.key.layout in
    let all : c.loop-place.place ≡ places layout = search rules in
    c.loop-place.invariant.tickets q ∙ ap (λ (n : ℕ). times q c.args.self.now.seat.seat.me.0.tickets + n)
    (got-all layout c.args.self.now.left c.loop-place.place q (omega (arith, below, all)))
