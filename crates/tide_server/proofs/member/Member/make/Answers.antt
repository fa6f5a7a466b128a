-- A member that is at work makes one more call.
use Rattle.std.proofs.Common.{ℕ, ◌≡◌, ◌-◌, ◌<◌, ◌∙◌, ap, arith, sym, subst, Bool, ◌||◌, List, [], ◌∷◌, ◌++◌}
use Rattle.std.specs.Prelude.{is_some, ◌==◌, MatchBool, Option}
use Rattle.tide_model.proofs.OwnCalls.{called, retry_of-push}
use Rattle.tide_model.specs.Script.{retry_after, retry_of}
use Rattle.tide_model.specs.Share.{ends_share, is_asked}
use Rattle.tide_model.specs.declared.entry.Event.{Event}
use Rattle.tide_model.specs.declared.op.Op.{Op}
use Rattle.tide_model.specs.declared.op.Reply.{Reply}
use Rattle.tide_mutator.specs.calls.Viewed.{view_of}
use Rattle.tide_mutator.specs.owed.Calling.{Kept}
use Rattle.tide_posts.specs.tide_heap.tide_core.declared.machine.view.View.{View}
use Rattle.tide_server.proofs.Working.{IsAtWork-called, at_work, over_where_ended}
use Rattle.tide_server.specs.AtWork.{IsAtWork, IsParked}
use Rattle.tide_server.proofs.member.Member.make.Goals as goal

pub call-reply-requires-clause-begun : goal.call-reply-requires-clause-begun
call-reply-requires-clause-begun g c κs within =
    let m = c.args.self.now in (at_work m.works (view_of m.mutator) m.left m.ended c.requires.of.stands c.requires.works).runs

pub call-reply-requires-clause-few : goal.call-reply-requires-clause-few
call-reply-requires-clause-few g c κs within takes =
    let m = c.args.self.now in
    let works = at_work m.works (view_of m.mutator) m.left m.ended c.requires.of.stands c.requires.works in
    let born = works.born in
    let count = works.count in
    let few = works.few in
    let left = c.requires.may.0 in
    omega (arith, born, count, few, left)

-- whether the call ended the share, as the flags say
ended_is : (pending held after : Option Op) (ended : Bool) (op : Op) (reply : Reply) → held ≡ pending →
    after ≡ retry_after held (op, reply) → ended ≡ (is_asked reply || is_some after) →
    ended ≡ ends_share pending (op, reply)
ended_is pending held after ended op reply same is ends = ends
    ∙ ap (λ (o : Option Op). is_asked reply || is_some o) (is ∙ ap (λ (o : Option Op). retry_after o (op, reply)) same)

-- what is to be tried again after it
retry_now : (v w : View) (held : Option Op) (op : Op) (reply : Reply) (took : Option ℕ) → held ≡ retry_of v.who v.mine →
    w.who ≡ v.who → w.mine ≡ v.mine ++ called v.who op reply took ∷ [] →
    retry_after held (op, reply) ≡ retry_of w.who w.mine
retry_now v w held op reply took same who adds = ap (λ (o : Option Op). retry_after o (op, reply)) same
    ∙ sym (ap (λ (h : List Event). retry_of w.who h) adds
    ∙ ap (λ (n : ℕ). retry_of n (v.mine ++ called v.who op reply took ∷ [])) who
    ∙ retry_of-push v.who v.mine op reply took)

pub invariant_of-self : goal.invariant_of-self
invariant_of-self g c =
    let m = c.args.self.now in
    let v = view_of m.mutator in
    let w = view_of c.call-reply.new.self in
    let op = c.args.op in
    let reply = c.call-reply.result in
    let told = c.call-reply.ensures in
    let works = at_work m.works v m.left m.ended c.requires.of.stands c.requires.works in
    let who = ap (λ (k : Kept). k.who) told.kept in
    let left = c.requires.may.0 in
    record {
      its = who ∙ m.its;
      before = (let period = ap (λ (k : Kept). k.period) told.kept in let before = m.before in omega (arith, period, before));
      numbered = λ _. ap (λ (k : Kept). k.ticket) told.kept ∙ m.numbered c.requires.works;
      retry_is = c.retry_after-self.ensures
          ∙ retry_now v w m.retry op reply told.makes.took m.retry_is who told.makes.adds;
      owes = λ _. m.owes c.requires.works;
    }

pub returns-clause-of : goal.returns-clause-of
returns-clause-of g c =
    let of = c.requires.of in
    let told = c.call-reply.ensures in
    let m = c.args.self.now in
    let v = view_of m.mutator in
    let w = view_of c.call-reply.new.self in
    let op = c.args.op in
    let reply = c.call-reply.result in
    let works = at_work m.works v m.left m.ended of.stands c.requires.works in
    let ended = ended_is (retry_of v.who v.mine) m.retry c.retry_after-self.result c.ends-self.result op reply m.retry_is
    c.retry_after-self.ensures c.ends-self.ensures in
    let left = c.requires.may.0 in
    record {
      table = told.same.0 ∙ of.table;
      seated = of.seated;
      named = of.named;
      is_mutator = subst (λ (n : ℕ). n < c.args.standing.now.heap.key.layout.mutators)
          (sym (ap (λ (k : Kept). k.who) told.kept)) of.is_mutator;
      stands = subst (λ (b : Bool). MatchBool b (IsAtWork w (m.left - 1) c.ends-self.result) (IsParked w)) (sym c.requires.works)
          (subst (IsAtWork w (m.left - 1)) (sym ended)
          (IsAtWork-called c.args.standing.now.heap.key.layout (g.S.ShapeTable.lists c.args.standing.now.heap.key.shapes)
          v w m.left (m.left - 1) op reply (subst (IsAtWork v m.left) c.requires.may.1 works) (omega (arith, left))
          c.requires.retries told.kept told.births told.makes));
    }

pub returns-clause-over : goal.returns-clause-over
returns-clause-over g c stops =
    let m = c.args.self.now in
    let v = view_of m.mutator in
    let w = view_of c.call-reply.new.self in
    let reply = c.call-reply.result in
    let told = c.call-reply.ensures in
    let retry = c.retry_after-self.ensures ∙ retry_now v w m.retry c.args.op reply told.makes.took m.retry_is
    (ap (λ (k : Kept). k.who) told.kept) told.makes.adds in
    over_where_ended m.works (m.left - 1 == 0) c.ends-self.result c.requires.works
    (c.ends-self.ensures ∙ ap (λ (o : Option Op). is_asked reply || is_some o) retry ∙ stops)
