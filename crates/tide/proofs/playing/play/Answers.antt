-- The thread is a new one, of the member that it was made of.
use Rattle.std.proofs.Common.{◌≡◌, ◌∙◌, ap, subst, sym}
use Rattle.std.specs.Prelude.{IsSomeAnd, Option}
use Rattle.tide.specs.Asking.{past_of}
use Rattle.tide.specs.Hosts.{nothing}
use Rattle.tide.specs.declared.own.Own.{Own}
use Rattle.tide_server.specs.declared.member.Member.{Member}
use Rattle.tide_server.specs.tide_mutator.calls.Viewed.{view_of}
use Rattle.tide.proofs.playing.play.Goals as goal

pub returns : goal.returns
returns g c =
    let who = (view_of c.args.member.mutator).who in
    let heap = c.args.standing.now.heap in
    let own = c.new-thread.ensures.own in
    let member = c.new.ensures.member in
    record {
      before = _;
      is_new = record {
        number = subst (λ (found : Option Own). IsSomeAnd found (λ own. (view_of own.member.mutator).who ≡ who)) (sym own)
            (ap (λ (m : Member). (view_of m.mutator).who) member);
        layout = subst (λ (found : Option Own). IsSomeAnd found (λ own. own.standing.now.heap.key.layout ≡ heap.key.layout))
            (sym own) (λ i. (c.new.ensures.heap i).now.heap.key.layout);
        heap = subst (λ (found : Option Own). IsSomeAnd found (λ own. own.standing.now.heap.table.shared.table_id
            ≡ heap.table.shared.table_id)) (sym own) (λ i. (c.new.ensures.heap i).now.heap.table.shared.table_id);
        past = subst (λ (found : Option Own). IsSomeAnd found (λ own. past_of own.member ≡ nothing)) (sym own)
            (ap past_of member ∙ c.requires.new.past);
        told = c.new-thread.ensures.told;
        stack = c.new-thread.ensures.stack;
      };
      after = _;
      answered = c.f-answer.ensures;
    }
