-- Why a participant may play, and what it did.
use Rattle.std.proofs.Common.{◌≡◌, ◌∙◌, sym, subst, Bool}
use Rattle.std.specs.Prelude.{IfOk, Result, Some}
use Rattle.tide_model.specs.declared.Memory.{Memory}
use Rattle.tide_shape.specs.Lists.{lists_of}
use Rattle.tide_heap.specs.declared.steps.notes.Ticket.{Ticket}
use Rattle.tide_threads.proofs.Turns.{HasMadePart-outcome, ticket_clash, ticket_same}
use Rattle.tide_threads.specs.Playing.{HasMadePart}
use Rattle.tide_threads.proofs.participant.Participant.play_part.Goals as goal

pub play-self-requires-clause-ready : goal.play-self-requires-clause-ready
play-self-requires-clause-ready g c κs within = c.requires.may c.in-Some.ticket (sym c.take.ensures.value ∙ c.in-Some.is)

pub returns : goal.returns
returns g c =
    let x = c.args.self.now in
    let key = c.args.heap.now.key in
    let id = c.args.heap.now.table.shared.table_id in
    let z = c.play-self.new.self in
    let had : x.ticket ≡ Some c.in-Some.ticket = sym c.take.ensures.value ∙ c.in-Some.is in
    record {
      did = record {
        no_ticket = c.play-self.ensures.ticket ∙ c.take.ensures.after;
        rested = λ none. absurd (ticket_clash c.in-Some.ticket x.ticket had none);
        made = λ ticket has ended served. HasMadePart-outcome id key.layout (lists_of key.shapes) ticket.seat.me.0 x.worker
            z c.play-self.result ended
            (subst (λ (t : Ticket). HasMadePart id key.layout (lists_of key.shapes) t.seat.me.0 x.worker z ended)
            (ticket_same c.in-Some.ticket ticket x.ticket had has)
            (subst (λ (r : Result Bool Memory). IfOk r (HasMadePart id key.layout (lists_of key.shapes) c.in-Some.ticket.seat.me.0
            x.worker z)) served c.play-self.ensures.made));
      };
    }
