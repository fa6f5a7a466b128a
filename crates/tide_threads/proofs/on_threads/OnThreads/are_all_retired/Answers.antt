-- Why all cursors have retired where all participants have.
use Rattle.std.proofs.Common.{◌∙◌, ap}
use Rattle.std.specs.List.{list_all}
use Rattle.crossbeam_utils.specs.Padded.{padded_value}
use Rattle.crossbeam_utils.specs.declared.cache_padded.CachePadded.{CachePadded}
use Rattle.tide_threads.specs.declared.participant.Participant.{Participant}
use Rattle.tide_threads.proofs.Acting.{list_all-cursors}
use Rattle.tide_threads.specs.Acting.{is_silent}
use Rattle.tide_threads.proofs.on_threads.OnThreads.are_all_retired.Goals as goal

pub returns : goal.returns
returns c =
    c.have_retired.ensures
    ∙ ap (list_all (λ (x : CachePadded Participant). is_silent (padded_value x).worker)) c.as_slice.ensures.value
    ∙ list_all-cursors c.args.self.now.participants.items
