-- A call that may wait stands after what its caller had seen.
use Rattle.std.proofs.Common.{◌∙◌, ap, arith, sym, subst, ℕ}
use Rattle.tide_model.proofs.PeriodLaws.{open_count-prefix}
use Rattle.tide_model.specs.Caller.{MakesCall}
use Rattle.tide_mutator.specs.calls.Viewed.{view_of}
use Rattle.tide_posts.proofs.FullCycles.{OpensLater-more, later_number}
use Rattle.tide_server.proofs.Working.{MakesCall-later, owns}
use Rattle.tide_server.specs.Members.{Calling}
use Rattle.tide_server.proofs.member.Member.call.Goals as goal

pub make-requires-clause-stays : goal.make-requires-clause-stays
make-requires-clause-stays g c κs within = ap (λ (k : Calling). k.has_left) c.come_to_work.ensures.same ∙ c.requires.stays

pub make-requires-clause-retries : goal.make-requires-clause-retries
make-requires-clause-retries g c κs within other pending =
    let same = c.come_to_work.ensures.same in
    c.requires.retries other
    (sym (ap (λ (k : Calling). Rattle.tide_model.specs.Script.retry_of k.who k.mine) same) ∙ pending)

pub returns-clause-makes : goal.returns-clause-makes
returns-clause-makes g c =
    let m = c.args.self.now in
    let v = view_of m.mutator in
    let mid = view_of c.come_to_work.new.self.mutator in
    let w = view_of c.make.new.self.mutator in
    let layout = c.args.standing.now.heap.key.layout in
    let shapes = g.S.ShapeTable.lists c.args.standing.now.heap.key.shapes in
    let same = c.come_to_work.ensures.same in
    MakesCall-later layout shapes v.who c.args.op c.make.result v.seen mid.seen w.seen v.mine mid.mine w.mine
    c.come_to_work.ensures.seen (ap (λ (k : Calling). k.mine) same) (owns m.works v m.left m.ended c.requires.of.stands)
    (subst (λ (n : ℕ). MakesCall layout shapes n c.args.op c.make.result mid.seen w.seen mid.mine w.mine)
    (ap (λ (k : Calling). k.who) same) c.make.ensures.makes)

pub returns-clause-claims : goal.returns-clause-claims
returns-clause-claims g c isnt = c.make.ensures.claims isnt ∙ ap (λ (k : Calling). k.claims) c.come_to_work.ensures.same

pub returns-clause-periods : goal.returns-clause-periods
returns-clause-periods g c begins =
    let mid = view_of c.come_to_work.new.self.mutator in
    OpensLater-more c.args.standing.now.heap.key.layout (view_of c.args.self.now.mutator).seen mid.seen
    (c.come_to_work.ensures.later begins) (view_of c.make.new.self.mutator).seen c.make.ensures.makes.seen

pub returns-clause-later : goal.returns-clause-later
returns-clause-later g c begins =
    let mid = view_of c.come_to_work.new.self.mutator in
    let later = later_number c.args.standing.now.heap.key.layout (view_of c.args.self.now.mutator).seen mid.seen
    (c.come_to_work.ensures.later begins) in
    let more = open_count-prefix mid.seen (view_of c.make.new.self.mutator).seen c.make.ensures.makes.seen in
    omega (arith, later, more)
