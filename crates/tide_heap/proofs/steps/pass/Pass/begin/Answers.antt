-- Why what it had seen, and what the ticket told, are beginnings of what it has seen.
use Rattle.std.proofs.Common.{subst, ap, ◌∙◌}
use Rattle.tide_core.specs.declared.machine.view.View.{View}
use Rattle.tide_model.specs.Prefix.{IsPrefix}
use Rattle.tide_heap.proofs.steps_laws.BeginsAndStops.{seen_begun}
use Rattle.tide_heap.proofs.steps.pass.Pass.begin.Goals as goal

pub returns-clause-earlier : goal.returns-clause-earlier
returns-clause-earlier g c =
    subst (λ (v : View). IsPrefix v.earlier c.activate.new.self.seat.me.0.seen) c.join.ensures.heard
    c.activate.ensures.earlier

pub returns-clause-told : goal.returns-clause-told
returns-clause-told g c =
    subst (λ (v : View). IsPrefix v.told c.activate.new.self.seat.me.0.seen) c.join.ensures.heard
    c.activate.ensures.told

pub returns-clause-mine : goal.returns-clause-mine
returns-clause-mine g c =
    ap (λ (v : View). v.mine) c.activate.ensures.begun ∙ (seen_begun c.join.new.self.seat.me.0).1
    ∙ ap (λ (v : View). v.mine) c.join.ensures.heard
