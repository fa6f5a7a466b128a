-- A member that leaves retires in a part, which stands after what it had seen.
use Rattle.std.proofs.Common.{ℕ, ◌∙◌, ap, subst}
use Rattle.tide_model.specs.Caller.{MakesCall}
use Rattle.tide_model.specs.Script.{retry_of}
use Rattle.tide_model.specs.declared.op.Op.TheVariants.{Retire}
use Rattle.tide_model.specs.declared.op.Reply.TheVariants.{Done}
use Rattle.tide_mutator.specs.calls.Viewed.{view_of}
use Rattle.tide_server.proofs.Working.{MakesCall-later, owns}
use Rattle.tide_server.specs.Members.{Calling}
use Rattle.tide_server.proofs.member.Member.leave.Goals as goal

pub retire-requires-clause-stays : goal.retire-requires-clause-stays
retire-requires-clause-stays g c κs within =
    ap (λ (k : Calling). k.has_left) c.come_to_work.ensures.same ∙ c.requires.stays

pub retire-requires-clause-bare : goal.retire-requires-clause-bare
retire-requires-clause-bare g c κs within =
    ap (λ (k : Calling). k.claims) c.come_to_work.ensures.same ∙ c.requires.bare

pub retire-requires-clause-settled : goal.retire-requires-clause-settled
retire-requires-clause-settled g c κs within =
    ap (λ (k : Calling). retry_of k.who k.mine) c.come_to_work.ensures.same ∙ c.requires.settled

pub returns-clause-makes : goal.returns-clause-makes
returns-clause-makes g c =
    let m = c.args.self.now in
    let v = view_of m.mutator in
    let mid = view_of c.come_to_work.new.self.mutator in
    let w = view_of c.retire.new.self.mutator in
    let layout = c.args.standing.now.heap.key.layout in
    let shapes = g.S.ShapeTable.lists c.args.standing.now.heap.key.shapes in
    let same = c.come_to_work.ensures.same in
    MakesCall-later layout shapes v.who Retire Done v.seen mid.seen w.seen v.mine mid.mine w.mine
    c.come_to_work.ensures.seen (ap (λ (k : Calling). k.mine) same) (owns m.works v m.left m.ended c.requires.of.stands)
    (subst (λ (n : ℕ). MakesCall layout shapes n Retire Done mid.seen w.seen mid.mine w.mine)
    (ap (λ (k : Calling). k.who) same) c.retire.ensures.makes)
