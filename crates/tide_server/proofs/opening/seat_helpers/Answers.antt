-- Each visitor's pass gets the next seat, and a stack for each cell.
use Rattle.std.proofs.Common.{ℕ, suc, ◌≡◌, ◌+◌, ◌≤◌, ◌∙◌, ap, arith, refl, sym, subst, [], ◌∷◌, ◌++◌, length}
use Rattle.std.proofs.lemmas.List.{length_push}
use Rattle.std.specs.Vec.Iter.{into_iter_items}
use Rattle.atomic_table.specs.Table.{Me}
use Rattle.tide_model.specs.Layout.{cell_count}
use Rattle.tide_posts.specs.Name.{Name}
use Rattle.tide_posts.specs.tide_hands.declared.member.MemberSeat.{MemberSeat}
use Rattle.tide_posts.specs.tide_hands.declared.parcel.Parcel.{Parcel}
use Rattle.tide_posts.specs.tide_hands.declared.view.HandView.{HandView}
use Rattle.tide_posts.specs.declared.handed.HandedIn.{HandedIn}
use Rattle.tide_posts.specs.tide_heap.declared.steps.notes.Ticket.{Ticket}
use Rattle.tide_posts.specs.tide_heap.tide_core.machine.Frozen.{newcomer}
use Rattle.tide_posts.specs.tide_heap.tide_words.marking.Greys.{Greys}
use Rattle.tide_server.proofs.Lists.{AreHelpers-push, IsHelperOf-newcomer}
use Rattle.tide_server.specs.Opened.{AreHelpers}
use Rattle.tide_table.specs.Started.{ArePasses}
use Rattle.tide_visitor.specs.Viewed.{stack_room_of}
use Rattle.tide_server.proofs.opening.seat_helpers.Goals as goal

pub loop-pass-init : goal.loop-pass-init
loop-pass-init g c =
    let first = c.into_iter-pass-iterator.ensures.into_iter_gives.0 in
    let next = c.requires.next in
    record {
      own = refl;
      named = refl;
      kept = refl;
      next = omega (arith, next);
      seated = ap length c.new-helpers.ensures.items;
      all = (let count = ap length first ∙ sym c.args.passes.ok.0 ∙ c.requires.all in omega (arith, count));
      left = subst (ArePasses c.args.standing.now.heap.table.shared.table_id 16) (sym first) c.requires.passes;
      are = subst (AreHelpers c.args.standing.now.heap.key.layout c.args.standing.now.heap.table.shared.table_id
          c.args.standing.now.hands.shared.table_id 16) (sym c.new-helpers.ensures.items) tt;
    }

pub new-helper-requires : goal.new-helper-requires
new-helper-requires g c =
    let at = subst (ArePasses c.args.standing.now.heap.table.shared.table_id (16 + length c.loop-pass.yielded))
    c.in-Some.ensures.steps.0 c.loop-pass.invariant.left in
    record {
      newcomer = (16 + length c.loop-pass.yielded, at.1);
      empty = ap (λ (s : Greys). s.cells) c.in_ok-stack.ensures;
    }

pub loop-pass-preserved : goal.loop-pass-preserved
loop-pass-preserved g c =
    let so = c.loop-pass.invariant in
    let standing = c.args.standing.now in
    let layout = standing.heap.key.layout in
    let heap = standing.heap.table.shared.table_id in
    let hands = standing.hands.shared.table_id in
    let yielded = c.loop-pass.yielded in
    let left = into_iter_items c.next.new.self in
    let items = c.loop-pass.helpers.items in
    let helper = c.new-helper.result in
    let made = c.new-helper.ensures in
    let at = subst (ArePasses heap (16 + length yielded)) c.in-Some.ensures.steps.0 so.left in
    let seated = c.seat_member-own.ensures in
    let next = ap (λ (m : Me (Parcel Ticket HandedIn) (HandView Name)). m.0.next) seated.keeper in
    let one_more = length_push yielded c.in-Some.pass in
    let fewer = ap length c.in-Some.ensures.steps.0 in
    let had = so.next in
    let all = so.all in
    let have = so.seated in
    let place = ap (λ (s : MemberSeat Ticket HandedIn Name). s.place) made.seat ∙ c.seat_member-own.result.its
    ∙ ap (λ (m : Me (Parcel Ticket HandedIn) (HandView Name)). m.0.place) seated.member.1 in
    let pushed = c.in_ok-push.ensures.items in
    record {
      own = seated.same.0 ∙ so.own;
      named = ap (λ (m : Me (Parcel Ticket HandedIn) (HandView Name)). m.0.name) seated.keeper ∙ so.named;
      kept = ap (λ (m : Me (Parcel Ticket HandedIn) (HandView Name)). record m.0 { next = 0 }) seated.keeper ∙ so.kept;
      next = omega (arith, next, had, one_more);
      seated = (let grown = ap length pushed ∙ length_push items helper in omega (arith, grown, have, one_more));
      all = omega (arith, one_more, fewer, all);
      left = subst (λ (k : ℕ). ArePasses heap k left)
          (let more : suc (16 + length yielded) ≡ 16 + length (yielded ++ c.in-Some.pass ∷ []) = omega (arith, one_more) in more) at.2;
      are = subst (AreHelpers layout heap hands 16) (sym pushed) (AreHelpers-push layout heap hands 16 items helper so.are
          (IsHelperOf-newcomer layout heap hands helper (length yielded) (made.table ∙ at.0)
          (ap (λ (s : MemberSeat Ticket HandedIn Name). s.seat.table_id) made.seat ∙ seated.member.0 ∙ so.own ∙ c.requires.own)
          (ap (λ (s : MemberSeat Ticket HandedIn Name). s.seat.me.0.name) made.seat
          ∙ ap (λ (m : Me (Parcel Ticket HandedIn) (HandView Name)). m.0.name) seated.member.1 ∙ so.named ∙ c.requires.named)
          (made.view ∙ at.1) (omega (arith, all, fewer)) (place ∙ had)
          (subst (λ (n : ℕ). n ≤ stack_room_of helper.visitor)
          (ap (λ (s : Greys). s.cap) c.in_ok-stack.ensures ∙ c.cells.ensures.count ∙ ap cell_count c.layout-layout.ensures)
          (let room = made.room in omega (arith, room))))
          (made.view ∙ at.1 ∙ ap newcomer (let e : 16 + length yielded ≡ 16 + length items = omega (arith, have) in e)));
    }
