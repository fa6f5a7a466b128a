-- A parked member begins the part of a ticket.
use Rattle.std.proofs.Common.{ℕ, ◌<◌, ◌∙◌, ap, arith, refl, sym, subst, false}
use Rattle.tide_model.specs.Script.{retry_of}
use Rattle.tide_mutator.specs.calls.Viewed.{view_of}
use Rattle.tide_mutator.specs.owed.Standing.{claims_of}
use Rattle.tide_posts.proofs.tide_heap.Newcomers.{begun_view-first}
use Rattle.tide_posts.specs.tide_heap.tide_core.declared.machine.view.View.{View}
use Rattle.tide_server.proofs.Working.{IsAtWork-begun, at_rest, opens_later}
use Rattle.tide_server.specs.AtWork.{IsAtWork}
use Rattle.tide_server.proofs.member.Member.begin.Goals as goal

pub begin-requires : goal.begin-requires
begin-requires g c =
    let m = c.args.self.now in record {
      own = c.requires.of.table;
      of_heap = c.requires.ticket.of_heap;
      parked = (at_rest m.works (view_of m.mutator) m.left m.ended c.requires.of.stands c.requires.parked).rests;
      stays = c.requires.stays;
      later = c.requires.later;
    }

pub invariant_of-self : goal.invariant_of-self
invariant_of-self g c =
    let m = c.args.self.now in
    let v = view_of m.mutator in
    let w = view_of c.begin.new.self in
    let t = c.args.ticket.seat.me.0 in
    let told = c.begin.ensures in
    let parked = at_rest m.works v m.left m.ended c.requires.of.stands c.requires.parked in
    let later = c.requires.later in
    let begun = parked.begun in
    let first = told.begun ∙ begun_view-first v t (omega (arith, begun, later)) in
    let few = c.run-self.type_inv in
    let run = c.run-self.ensures in
    record {
      its = ap (λ (x : View). x.who) first ∙ m.its;
      before = (let period = ap (λ (x : View). x.period) first in let before = m.before in omega (arith, period, before));
      numbered = λ _. ap (λ (x : View). x.ticket) first ∙ c.requires.ticket.part;
      retry_is = m.retry_is ∙ ap (λ (x : View). retry_of x.who x.mine) (sym first);
      owes = λ _. c.requires.owes;
    }

pub returns-clause-of : goal.returns-clause-of
returns-clause-of g c =
    let m = c.args.self.now in
    let v = view_of m.mutator in
    let parked = at_rest m.works v m.left m.ended c.requires.of.stands c.requires.parked in
    let later = c.requires.later in
    let begun = parked.begun in
    let first = c.begin.ensures.begun ∙ begun_view-first v c.args.ticket.seat.me.0 (omega (arith, begun, later)) in
    let of = c.requires.of in
    let w = view_of c.begin.new.self in
    let t = c.args.ticket.seat.me.0 in
    let told = c.begin.ensures in
    let few = c.run-self.type_inv in
    let run = c.run-self.ensures in
    record {
      table = c.begin.ensures.same.0 ∙ of.table;
      seated = of.seated;
      named = of.named;
      is_mutator = subst (λ (x : View). x.who < c.args.standing.now.heap.key.layout.mutators) (sym first) of.is_mutator;
      stands = subst (λ (n : ℕ). IsAtWork w n false) (sym run) (IsAtWork-begun c.args.standing.now.heap.key.layout v t w
          told.begun parked later c.requires.ticket.tells (omega (arith, few, run)) told.told told.own);
    }

pub returns-clause-begun : goal.returns-clause-begun
returns-clause-begun g c =
    let run = c.run-self.ensures in
    let some = c.requires.ticket.tells.some in (refl, ((omega (arith, run, some)), refl))

pub returns-clause-same : goal.returns-clause-same
returns-clause-same g c =
    let m = c.args.self.now in
    let v = view_of m.mutator in
    let parked = at_rest m.works v m.left m.ended c.requires.of.stands c.requires.parked in
    let later = c.requires.later in
    let begun = parked.begun in
    let first = c.begin.ensures.begun ∙ begun_view-first v c.args.ticket.seat.me.0 (omega (arith, begun, later)) in
    ap (λ (x : View). record { who = x.who; mine = x.mine; claims = claims_of x; has_left = x.left; retry = m.retry }) first

pub returns-clause-later : goal.returns-clause-later
returns-clause-later g c =
    let m = c.args.self.now in
    let v = view_of m.mutator in
    opens_later c.args.standing.now.heap.key.layout v c.args.ticket.seat.me.0 (view_of c.begin.new.self).seen
    (at_rest m.works v m.left m.ended c.requires.of.stands c.requires.parked) c.requires.later c.requires.ticket.tells
    c.begin.ensures.earlier c.begin.ensures.told
