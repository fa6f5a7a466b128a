-- Why the races of one participant more are added.
use Rattle.std.proofs.Common.{◌∙◌, ap, arith}
use Rattle.crossbeam_utils.specs.Padded.{padded_value}
use Rattle.crossbeam_utils.specs.declared.cache_padded.CachePadded.{CachePadded}
use Rattle.tide_threads.proofs.Acting.{races_more}
use Rattle.tide_threads.specs.Acting.{races_of}
use Rattle.tide_threads.specs.declared.participant.Participant.{Participant}
use Rattle.tide_threads.proofs.on_threads.deferred_by.Goals as goal

pub loop-padded-preserved : goal.loop-padded-preserved
loop-padded-preserved c =
    let ps = c.args.participants.now in
    let at = c.loop-padded.padded-index in
    let more = races_more ps at c.padded-item.result (omega (arith, c.loop-padded-test.true, c.loop-padded.auto.padded-index-end)) in
    let met = c.deferred.ensures ∙ ap (λ (p : Participant). races_of p.worker) c.deref.ensures
    ∙ ap (λ (p : CachePadded Participant). races_of (padded_value p).worker) c.padded-item.is in
    let sum = c.saturating_add-deferred.ensures in
    let so = c.loop-padded.invariant in
    omega (arith, more, met, sum, so)
