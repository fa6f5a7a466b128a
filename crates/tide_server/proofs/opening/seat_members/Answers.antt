-- Each mutator's pass gets the next seat.
use Rattle.std.proofs.Common.{ℕ, suc, ◌≡◌, ◌+◌, ◌∙◌, ap, arith, refl, sym, subst, [], ◌∷◌, ◌++◌, length}
use Rattle.std.proofs.lemmas.List.{length_push}
use Rattle.std.specs.Vec.Iter.{into_iter_items}
use Rattle.atomic_table.specs.Table.{Me}
use Rattle.tide_posts.specs.Name.{Name}
use Rattle.tide_posts.specs.tide_hands.declared.member.MemberSeat.{MemberSeat}
use Rattle.tide_posts.specs.tide_hands.declared.parcel.Parcel.{Parcel}
use Rattle.tide_posts.specs.tide_hands.declared.view.HandView.{HandView}
use Rattle.tide_posts.specs.declared.handed.HandedIn.{HandedIn}
use Rattle.tide_posts.specs.tide_heap.declared.steps.notes.Ticket.{Ticket}
use Rattle.tide_posts.specs.tide_heap.tide_core.machine.Frozen.{newcomer}
use Rattle.tide_server.proofs.Lists.{AreMembers-push, IsMemberOf-newcomer}
use Rattle.tide_server.specs.Opened.{AreMembers}
use Rattle.tide_table.specs.Started.{ArePasses}
use Rattle.tide_server.proofs.opening.seat_members.Goals as goal

pub loop-pass-init : goal.loop-pass-init
loop-pass-init g c =
    let first = c.into_iter-pass-iterator.ensures.into_iter_gives.0 in
    record {
      own = refl;
      named = refl;
      kept = refl;
      next = c.requires.first;
      seated = ap length c.new-members.ensures.items;
      all = (let count = ap length first ∙ sym c.args.passes.ok.0 ∙ c.requires.all in omega (arith, count));
      left = subst (ArePasses c.args.standing.now.heap.table.shared.table_id 0) (sym first) c.requires.passes;
      are = subst (AreMembers c.args.standing.now.heap.key.layout c.args.standing.now.heap.table.shared.table_id
          c.args.standing.now.hands.shared.table_id 0) (sym c.new-members.ensures.items) tt;
    }

pub loop-pass-preserved : goal.loop-pass-preserved
loop-pass-preserved g c =
    let so = c.loop-pass.invariant in
    let standing = c.args.standing.now in
    let layout = standing.heap.key.layout in
    let yielded = c.loop-pass.yielded in
    let left = into_iter_items c.next.new.self in
    let items = c.loop-pass.members.items in
    let member = c.new-member.result in
    let at = subst (ArePasses standing.heap.table.shared.table_id (length yielded)) c.in-Some.ensures.steps.0 so.left in
    let seated = c.seat_member-own.ensures in
    let next = ap (λ (m : Me (Parcel Ticket HandedIn) (HandView Name)). m.0.next) seated.keeper in
    let one_more = length_push yielded c.in-Some.pass in
    let fewer = ap length c.in-Some.ensures.steps.0 in
    let had = so.next in
    let all = so.all in
    let have = so.seated in
    let place = c.seat_member-own.result.its ∙ ap (λ (m : Me (Parcel Ticket HandedIn) (HandView Name)). m.0.place) seated.member.1 in
    let pushed = c.in_ok-push.ensures.items in
    record {
      own = seated.same.0 ∙ so.own;
      named = ap (λ (m : Me (Parcel Ticket HandedIn) (HandView Name)). m.0.name) seated.keeper ∙ so.named;
      kept = ap (λ (m : Me (Parcel Ticket HandedIn) (HandView Name)). record m.0 { next = 0 }) seated.keeper ∙ so.kept;
      next = omega (arith, next, had, one_more);
      seated = (let grown = ap length pushed ∙ length_push items member in omega (arith, grown, have, one_more));
      all = omega (arith, one_more, fewer, all);
      left = subst (λ (k : ℕ). ArePasses standing.heap.table.shared.table_id k left)
          (let more : suc (length yielded) ≡ length (yielded ++ c.in-Some.pass ∷ []) = omega (arith, one_more) in more) at.2;
      are = subst (AreMembers layout standing.heap.table.shared.table_id standing.hands.shared.table_id 0) (sym pushed)
          (AreMembers-push layout standing.heap.table.shared.table_id standing.hands.shared.table_id 0 items member so.are
          (IsMemberOf-newcomer layout standing.heap.table.shared.table_id standing.hands.shared.table_id member
          c.seat_member-own.result.place (c.new-member.ensures.table ∙ at.0)
          (ap (λ (s : MemberSeat Ticket HandedIn Name). s.seat.table_id) c.new-member.ensures.seat ∙ seated.member.0 ∙ so.own ∙ c.requires.own)
          (ap (λ (s : MemberSeat Ticket HandedIn Name). s.seat.me.0.name) c.new-member.ensures.seat
          ∙ ap (λ (m : Me (Parcel Ticket HandedIn) (HandView Name)). m.0.name) seated.member.1 ∙ so.named ∙ c.requires.named)
          c.new-member.ensures.view c.new-member.ensures.rests (omega (arith, place, had, all, fewer)))
          (c.new-member.ensures.view
          ∙ ap newcomer (let e : c.seat_member-own.result.place ≡ 0 + length items = omega (arith, place, had, have) in e)));
    }
