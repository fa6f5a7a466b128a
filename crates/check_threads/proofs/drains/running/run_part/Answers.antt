-- Why both may make their parts, and that their notes are those of all then.
use Rattle.std.proofs.Common.{ℕ, ◌∙◌, sym, ap, subst}
use Rattle.check_threads.proofs.drains_laws.Taking.{is_in, stays_in}
use Rattle.embed_heap.specs.visitor.Parts.{IsIdleBefore}
use Rattle.tide_heap.specs.tide_core.declared.machine.view.View.{View}
use Rattle.tide_mutator.specs.calls.Viewed as mutator
use Rattle.tide_visitor.specs.Viewed as visitor
use Rattle.check_threads.proofs.drains.running.run_part.Goals as goal

pub run_both-worked-requires-clause-marks : goal.run_both-worked-requires-clause-marks
run_both-worked-requires-clause-marks g c κs within =
    let heard = c.ticket-first.ensures.same.2 in
    ap (λ (x : View). x.marks) c.ticket-second.ensures.ticket.1 ∙ ap (λ (x : View). x.marks) heard ∙ c.requires.marks

pub run_both-worked-requires-clause-idle : goal.run_both-worked-requires-clause-idle
run_both-worked-requires-clause-idle g c κs within =
    let first = ap (λ (x : View). x.period) c.ticket-first.ensures.ticket.1 in
    let heard = c.ticket-first.ensures.same.2 in
    let second = ap (λ (x : View). x.period) c.ticket-second.ensures.ticket.1 ∙ ap (λ (x : View). x.period) heard in (
      subst (λ (n : ℕ). IsIdleBefore 0 n (mutator.view_of c.args.mutator)) (sym first) c.requires.mutator,
      subst (λ (n : ℕ). IsIdleBefore 16 n (visitor.view_of c.args.visitor)) (sym second) c.requires.visitor,
    )

pub take-requires-clause-running : goal.take-requires-clause-running
take-requires-clause-running g c =
    ap (λ (x : View). x.frozen) (c.ticket-second.ensures.same.2 ∙ c.ticket-first.ensures.same.2) ∙ c.requires.running

pub take-requires-clause-now : goal.take-requires-clause-now
take-requires-clause-now g c =
    c.run_both-worked.ensures.notes.0.period ∙ ap (λ (x : View). x.period) c.ticket-first.ensures.ticket.1
    ∙ sym (ap (λ (x : View). x.period) (c.ticket-second.ensures.same.2 ∙ c.ticket-first.ensures.same.2))

pub take-requires-2-clause-running : goal.take-requires-2-clause-running
take-requires-2-clause-running g c =
    ap (λ (x : View). x.frozen) c.take.ensures.noted
    ∙ ap (λ (x : View). x.frozen) (c.ticket-second.ensures.same.2 ∙ c.ticket-first.ensures.same.2) ∙ c.requires.running

pub take-requires-2-clause-now : goal.take-requires-2-clause-now
take-requires-2-clause-now g c =
    c.run_both-worked.ensures.notes.1.period ∙ ap (λ (x : View). x.period) c.ticket-second.ensures.ticket.1
    ∙ ap (λ (x : View). x.period) c.ticket-first.ensures.same.2
    ∙ sym (ap (λ (x : View). x.period) c.take.ensures.noted
    ∙ ap (λ (x : View). x.period) (c.ticket-second.ensures.same.2 ∙ c.ticket-first.ensures.same.2))

pub returns-clause-running : goal.returns-clause-running
returns-clause-running g c =
    ap (λ (x : View). x.frozen) c.take-2.ensures.noted ∙ ap (λ (x : View). x.frozen) c.take.ensures.noted
    ∙ ap (λ (x : View). x.frozen) (c.ticket-second.ensures.same.2 ∙ c.ticket-first.ensures.same.2) ∙ c.requires.running

pub returns-clause-both : goal.returns-clause-both
returns-clause-both g c =
    let before = c.ticket-second.new.self.seat.me.0 in
    let one = c.run_both-worked.result.0.note.seat.me.0 in
    let other = c.run_both-worked.result.1.note.seat.me.0 in
    let between = c.take.new.self.seat.me.0 in
    let after = c.take-2.new.self.seat.me.0 in (
      stays_in 0 between other after c.take-2.ensures.noted
          (is_in 0 before one between c.run_both-worked.ensures.notes.0.is c.take.ensures.noted),
      is_in 16 between other after c.run_both-worked.ensures.notes.1.is c.take-2.ensures.noted,
    )
