-- A member with calls left stops early, and is parked.
use Rattle.std.proofs.Common.{◌<◌, ◌∙◌, ap, arith, sym, subst, Bool, false, true}
use Rattle.tide_model.specs.Script.{retry_of}
use Rattle.tide_mutator.specs.calls.Viewed.{view_of}
use Rattle.tide_mutator.specs.owed.Standing.{claims_of}
use Rattle.tide_posts.proofs.Sharing.{HasShared-early}
use Rattle.tide_posts.specs.Shares.{HasShared, IsSharing}
use Rattle.tide_posts.specs.tide_heap.tide_core.declared.machine.view.View.{View}
use Rattle.tide_server.proofs.Working.{IsParked-stopped, at_work}
use Rattle.tide_server.proofs.member.Member.stop_early.Goals as goal

pub stop_and_post-requires : goal.stop_and_post-requires
stop_and_post-requires g c =
    let m = c.args.self.now in
    let v = view_of m.mutator in
    let works = at_work m.works v m.left m.ended c.requires.of.stands c.requires.works in
    let of = c.requires.of in
    record {
      own = of.table;
      seated = of.seated;
      named = of.named;
      its = m.its;
      mutator = of.is_mutator;
      owes = m.owes c.requires.works;
      runs = works.runs;
      of_part = works.begun;
      once = works.once;
      numbered = m.numbered c.requires.works;
      shared = subst (λ (b : Bool). HasShared v.who v.ticket v.run v.seen v.mine b false true) (sym c.requires.stays)
          (HasShared-early v.who v.ticket v.run works.made v.seen v.mine
          (subst (IsSharing v.who v.ticket v.run v.seen v.mine works.made) c.requires.left.1 works.sharing)
          (let count = works.count in let some = c.requires.left.0 in omega (arith, count, some)));
      still = works.visits;
    }

pub invariant_of-self : goal.invariant_of-self
invariant_of-self g c =
    let m = c.args.self.now in
    let v = view_of m.mutator in
    let works = at_work m.works v m.left m.ended c.requires.of.stands c.requires.works in
    let told = c.stop_and_post.ensures in
    record {
      its = ap (λ (x : View). x.who) told.stopped ∙ m.its ∙ sym told.seated.1;
      before =
          let number = m.numbered c.requires.works in
          let period = ap (λ (x : View). x.period) told.stopped in
          let taken = told.posted.1 in
          omega (arith, number, period, taken);
      numbered = λ is. absurd (cc);
      retry_is = m.retry_is ∙ ap (λ (x : View). retry_of x.who x.mine) (sym told.stopped);
      owes = λ is. absurd (cc);
    }

pub returns-clause-of : goal.returns-clause-of
returns-clause-of g c =
    let of = c.requires.of in
    let told = c.stop_and_post.ensures in
    let m = c.args.self.now in
    let v = view_of m.mutator in
    let works = at_work m.works v m.left m.ended of.stands c.requires.works in
    record {
      table = told.same ∙ of.table;
      seated = told.seated.0 ∙ of.seated;
      named = told.named ∙ of.named;
      is_mutator = subst (λ (x : View). x.who < c.args.standing.now.heap.key.layout.mutators) (sym told.stopped) of.is_mutator;
      stands = IsParked-stopped v (view_of c.stop_and_post.new.mutator) told.stopped works.begun works.sharing.own told.opens;
    }

pub returns-clause-same : goal.returns-clause-same
returns-clause-same g c =
    let m = c.args.self.now in
    ap (λ (x : View). record { who = x.who; mine = x.mine; claims = claims_of x; has_left = x.left; retry = m.retry })
    c.stop_and_post.ensures.stopped

pub returns-clause-seen : goal.returns-clause-seen
returns-clause-seen g c = ap (λ (x : View). x.seen) c.stop_and_post.ensures.stopped
