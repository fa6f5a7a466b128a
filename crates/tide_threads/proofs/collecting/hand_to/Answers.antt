-- Why a participant was handed its ticket.
use Rattle.std.proofs.Common.{◌≡◌, ◌∙◌, refl, sym, subst, true, false, Some}
use Rattle.tide_threads.specs.Playing.{WasHanded}
use Rattle.tide_threads.specs.declared.participant.Participant.{Participant}
use Rattle.tide_threads.proofs.collecting.hand_to.Goals as goal

pub returns-then-not-has_left-clause-handed : goal.returns-then-not-has_left-clause-handed
returns-then-not-has_left-clause-handed c =
    let p = c.deref_mut-participant.result.now in
    subst (λ (x : Participant). WasHanded c.args.heap.now.table.shared.table_id c.args.collector.now.seat.me.0 x
    (record p { ticket = Some c.ticket.result })) c.deref_mut-participant.ensures.value (record {
      worker = refl;
      note = refl;
      left = λ e. absurd (let clash : true ≡ false = sym e ∙ sym c.has_left.ensures ∙ c.if-not-has_left.true in cc);
      ticket = λ _. (
        c.ticket.result,
        refl,
        record { of_heap = c.ticket.ensures.ticket.0 ∙ c.requires.own; tells = c.ticket.ensures.ticket.1 },
      );
    })
