-- Why a note may be taken in, and was.
use Rattle.std.proofs.Common.{◌≡◌, ◌∙◌, refl, sym, ap, Some, None, []}
use Rattle.crossbeam_utils.specs.Padded.{padded_value}
use Rattle.std.specs.Prelude.{Option}
use Rattle.tide_heap.specs.declared.steps.notes.Note.{Note}
use Rattle.tide_threads.proofs.Acting.{no_note_is}
use Rattle.tide_threads.specs.Acting.{before_all, noted_all, told_in}
use Rattle.tide_threads.specs.declared.participant.Participant.{Participant}
use Rattle.tide_threads.proofs.collecting.take_from.Goals as goal

pub take-requires-in-Some : goal.take-requires-in-Some
take-requires-in-Some c =
    let out : (padded_value c.args.padded.now).note ≡ Some c.in-Some.note =
    sym (ap (λ (x : Participant). x.note) c.deref_mut-participant.ensures.value) ∙ sym c.take.ensures.value ∙ c.in-Some.is in
    let may = c.requires.may c.in-Some.note out in record {
      own = c.requires.own;
      of_heap = may.of_heap;
      running = c.requires.running;
      now = may.of_part;
    }

pub returns-in-Some : goal.returns-in-Some
returns-in-Some c =
    let value = c.deref_mut-participant.ensures.value in
    let v = c.args.collector.now.seat.me.0 in
    let out : (padded_value c.args.padded.now).note ≡ Some c.in-Some.note =
    sym (ap (λ (x : Participant). x.note) value) ∙ sym c.take.ensures.value ∙ c.in-Some.is in record {
      same = c.take-in-Some.ensures.same.0;
      taken = c.take-in-Some.ensures.noted ∙ ap (λ (o : Option Note). noted_all (before_all (told_in o) []) v) (sym out);
      gave = λ i. record (value i) { note = c.take.ensures.after i };
    }

pub returns-in_default : goal.returns-in_default
returns-in_default c =
    let value = c.deref_mut-participant.ensures.value in
    let v = c.args.collector.now.seat.me.0 in
    let none : (padded_value c.args.padded.now).note ≡ None =
    no_note_is (padded_value c.args.padded.now).note
    (λ note is. c.in_default.not-Some note (c.take.ensures.value ∙ ap (λ (x : Participant). x.note) value ∙ is)) in record {
      same = refl;
      taken = ap (λ (o : Option Note). noted_all (before_all (told_in o) []) v) (sym none);
      gave = λ i. record (value i) { note = c.take.ensures.after i };
    }
