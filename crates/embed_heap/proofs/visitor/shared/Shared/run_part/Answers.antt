-- Why both may make their parts, and what both notes leave the collector.
use Rattle.std.proofs.Common.{ℕ, ◌≡◌, ◌∙◌, sym, ap, subst, arith}
use Rattle.embed_heap.proofs.visitor_laws.Taking.{both_done, both_in, both_runs, both_told}
use Rattle.tide.specs.Parts.{IsIdle, IsIdleBefore}
use Rattle.tide.specs.tide_heap.Turns.{noted}
use Rattle.tide.specs.tide_core.declared.machine.view.Role.TheVariants.{Ticket}
use Rattle.tide.specs.tide_core.declared.machine.view.View.{View}
use Rattle.tide.specs.tide_mutator.calls.Viewed as mutator
use Rattle.tide.specs.tide_visitor.Viewed as visitor
use Rattle.embed_heap.proofs.visitor.shared.Shared.run_part.Goals as goal

pub work_and_visit-worked-requires-clause-idle : goal.work_and_visit-worked-requires-clause-idle
work_and_visit-worked-requires-clause-idle g c κs within =
    let first = ap (λ (x : View). x.period) c.ticket-first.ensures.ticket.1 in
    let heard = ap (λ (x : View). x.period) c.ticket-first.ensures.same.2 in
    let second = ap (λ (x : View). x.period) c.ticket-second.ensures.ticket.1 ∙ heard in (
      subst (λ (n : ℕ). IsIdleBefore 0 n (mutator.view_of c.args.self.mutator)) (sym first) c.requires.opened.mutator,
      subst (λ (n : ℕ). IsIdleBefore 16 n (visitor.view_of c.args.self.visitor)) (sym second) c.requires.opened.visitor,
    )

pub take-requires-clause-running : goal.take-requires-clause-running
take-requires-clause-running g c =
    ap (λ (x : View). x.frozen) (c.ticket-second.ensures.same.2 ∙ c.ticket-first.ensures.same.2)
    ∙ c.requires.opened.runs.runs.running

pub take-requires-clause-now : goal.take-requires-clause-now
take-requires-clause-now g c =
    c.work_and_visit-worked.ensures.notes.0.period ∙ ap (λ (x : View). x.period) c.ticket-first.ensures.ticket.1
    ∙ sym (ap (λ (x : View). x.period) (c.ticket-second.ensures.same.2 ∙ c.ticket-first.ensures.same.2))

pub take-requires-2-clause-running : goal.take-requires-2-clause-running
take-requires-2-clause-running g c =
    ap (λ (x : View). x.frozen) c.take.ensures.noted
    ∙ ap (λ (x : View). x.frozen) (c.ticket-second.ensures.same.2 ∙ c.ticket-first.ensures.same.2)
    ∙ c.requires.opened.runs.runs.running

pub take-requires-2-clause-now : goal.take-requires-2-clause-now
take-requires-2-clause-now g c =
    let part = ap (λ (x : View). x.period) (c.ticket-second.ensures.same.2 ∙ c.ticket-first.ensures.same.2) in
    c.work_and_visit-worked.ensures.notes.1.period ∙ ap (λ (x : View). x.period) c.ticket-second.ensures.ticket.1
    ∙ ap (λ (x : View). x.period) c.ticket-first.ensures.same.2
    ∙ sym (ap (λ (x : View). x.period) c.take.ensures.noted ∙ part)

pub returns-clause-stopped : goal.returns-clause-stopped
returns-clause-stopped g c =
    let layout = c.args.self.heap.key.layout in
    let opened = c.requires.opened in
    let v = c.args.self.collector.seat.me.0 in
    let t = c.ticket-first.result.seat.me.0 in
    let s = c.ticket-second.result.seat.me.0 in
    let one = c.work_and_visit-worked.result.0.note.seat.me.0 in
    let other = c.work_and_visit-worked.result.1.note.seat.me.0 in
    let w = c.take-2.new.self.seat.me.0 in
    let first = c.work_and_visit-worked.ensures.notes.0 in
    let second = c.work_and_visit-worked.ensures.notes.1 in
    let told : t ≡ record v { role = Ticket } = c.ticket-first.ensures.ticket.1 in
    let told_too : s ≡ record v { role = Ticket } =
    c.ticket-second.ensures.ticket.1 ∙ ap (λ (x : View). record x { role = Ticket }) c.ticket-first.ensures.same.2 in
    let heard = ap (λ (x : View). x.period) told in
    let heard_too = ap (λ (x : View). x.period) told_too in
    let took : w ≡ noted (noted v one) other =
    c.take-2.ensures.noted
    ∙ ap (λ (x : View). noted x other) (c.take.ensures.noted
    ∙ ap (λ (x : View). noted x one) (c.ticket-second.ensures.same.2 ∙ c.ticket-first.ensures.same.2)) in
    let period = ap (λ (x : View). x.period) took in
    record {
      runs = both_runs v t s one other w first second heard heard_too took layout c.args.self.books opened.runs;
      notes = both_in v t s one other w first second heard heard_too took opened.notes;
      visits = other.visits;
      visited = both_told v t s one other w first second heard heard_too took opened.visited c.work_and_visit-worked.ensures.unvisited;
      done = both_done v t s one other w first second heard heard_too took opened.done;
      few = (
          let few = second.few in
          let asked = ap (λ (x : View). x.run) told_too in
          let run = ap (λ (x : View). x.run) took in
          omega (arith, few, asked, run));
      none = λ idle. second.none (ap (λ (x : View). x.marks) told_too ∙ sym (ap (λ (x : View). x.marks) took) ∙ idle);
      mutator = subst (λ (n : ℕ). IsIdle 0 n (mutator.view_of c.work_and_visit-worked.result.0.mutator)) (heard ∙ sym period)
          c.work_and_visit-worked.ensures.idle.0;
      visitor = subst (λ (n : ℕ). IsIdle 16 n (visitor.view_of c.work_and_visit-worked.result.1.visitor)) (heard_too ∙ sym period)
          c.work_and_visit-worked.ensures.idle.1;
    }
