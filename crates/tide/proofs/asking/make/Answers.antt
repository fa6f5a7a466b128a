-- A call behind a freeze to which its member came early stands after what that had seen before.
use Rattle.std.proofs.Common.{ℕ, ◌∙◌, ap, sym, subst, List}
use Rattle.tide_server.specs.Members.{Calling}
use Rattle.tide_server.specs.tide_model.Caller.{MakesCall}
use Rattle.tide_server.specs.tide_model.Script.{retry_of}
use Rattle.tide_server.specs.tide_model.declared.entry.Event.{Event}
use Rattle.tide_server.specs.tide_mutator.calls.Viewed.{view_of}
use Rattle.tide_server.specs.tide_posts.Schedule.{OpensLater}
use Rattle.tide_server.specs.tide_shape.Lists.{lists_of}
use Rattle.tide.proofs.asking.make.Goals as goal

pub call-requires-clause-stays : goal.call-requires-clause-stays
call-requires-clause-stays g c κs within =
    ap (λ (k : Calling). k.has_left) c.come_where_wanted.ensures.same ∙ c.requires.stays

pub call-requires-clause-retries : goal.call-requires-clause-retries
call-requires-clause-retries g c κs within other pending =
    c.requires.retries other
    (sym (ap (λ (k : Calling). retry_of k.who k.mine) c.come_where_wanted.ensures.same) ∙ pending)

pub returns-clause-makes : goal.returns-clause-makes
returns-clause-makes g c =
    let k = c.args.standing.now in
    let v = view_of c.args.member.now.mutator in
    let mid = view_of c.come_where_wanted.new.member.mutator in
    let w = view_of c.call.new.self.mutator in
    let layout = k.heap.key.layout in
    let shapes = lists_of k.heap.key.shapes in
    let same = c.come_where_wanted.ensures.same in
    subst (λ (who : ℕ). MakesCall layout shapes who c.args.op c.in-Ok.reply v.seen w.seen v.mine w.mine)
    (ap (λ (k : Calling). k.who) same)
    (subst (λ (mine : List Event). MakesCall layout shapes mid.who c.args.op c.in-Ok.reply v.seen w.seen mine w.mine)
    (ap (λ (k : Calling). k.mine) same)
    (subst (λ (seen : List Event). MakesCall layout shapes mid.who c.args.op c.in-Ok.reply seen w.seen mid.mine w.mine)
    c.come_where_wanted.ensures.seen c.in-Ok.ensures.makes))

pub returns-clause-claims : goal.returns-clause-claims
returns-clause-claims g c isnt =
    c.call.ensures.claims isnt ∙ ap (λ (k : Calling). k.claims) c.come_where_wanted.ensures.same

pub returns-clause-later : goal.returns-clause-later
returns-clause-later g c begins =
    subst (λ (seen : List Event). OpensLater c.args.standing.now.heap.key.layout seen (view_of c.call.new.self.mutator).seen)
    c.come_where_wanted.ensures.seen (c.call.ensures.periods (c.come_where_wanted.ensures.next begins))
