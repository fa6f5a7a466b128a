-- What a participant's part makes.
use Rattle.std.proofs.Common.{refl}
use Rattle.std.proofs.lemmas.Result.{err_from_is_err_and}
use Rattle.tide_threads.proofs.participant.Participant.play.Goals as goal

pub returns-in_err-ended : goal.returns-in_err-ended
returns-in_err-ended g c =
    let failed = err_from_is_err_and c.from_residual.result c.from_residual.ensures.1 in
    rw failed.1 (record { made = tt; ticket = refl })

pub returns : goal.returns
returns g c = record {
  made = record { note = c.in_ok-ended.field-0.note; is_out = refl; did = c.in_ok-ended.ensures.did };
  ticket = refl;
}
