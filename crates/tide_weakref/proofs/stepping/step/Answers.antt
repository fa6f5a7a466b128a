-- A call that a realm makes is one of its mutator's.
use Rattle.std.proofs.Common.{ℕ, ◌<◌, ◌∙◌, sym, ap, subst}
use Rattle.tide_mutator.specs.calls.Viewed.{view_of}
use Rattle.tide_mutator.specs.owed.Calling.{Kept}
use Rattle.tide_weakref.proofs.CalledLaws.{called_one}
use Rattle.tide_weakref.proofs.OfRealm.{of_no_claim, takes_none}
use Rattle.tide_weakref.proofs.stepping.step.Goals as goal

pub returns-clause-stepped : goal.returns-clause-stepped
returns-clause-stepped g c =
    let layout = c.args.heap.now.key.layout in
    let v = view_of c.args.mutator.now in
    let u = view_of c.call.new.self in
    let running = c.requires.running in
    let called = c.call.ensures in
    let same = λ (k : Kept). k.who in
    record {
      running = record {
        own = called.same.0 ∙ running.own;
        is_mutator = subst (λ (n : ℕ). n < layout.mutators) (sym (ap same called.kept)) running.is_mutator;
        begun = ap (λ (k : Kept). k.runs) called.kept ∙ running.begun;
        stays = called.stays;
      };
      seat = called.same.1;
      who = ap same called.kept;
      called = called_one layout (g.S.ShapeTable.lists c.args.heap.now.key.shapes) v u c.args.op c.call.result c.requires.of_realm called.makes
          called.kept (called.stays ∙ sym running.stays)
          (called.none_born (takes_none c.args.op c.requires.of_realm))
          (called.claims (of_no_claim c.args.op c.requires.of_realm));
      own = λ own. called.makes.were_own;
    }
