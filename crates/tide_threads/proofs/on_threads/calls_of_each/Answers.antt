-- Why each mutator's calls are there.
use Rattle.std.proofs.Common.{◌++◌, ◌∷◌, ◌∙◌, sym, ap, List, [], map}
use Rattle.std.proofs.lemmas.List.{map-append}
use Rattle.crossbeam_utils.specs.Padded.{padded_value}
use Rattle.tide_periods.specs.declared.answered.Answered.{Answered}
use Rattle.tide_periods.specs.declared.cursor.ScriptCursor.{ScriptCursor}
use Rattle.tide_threads.proofs.Acting.{cursors_in-append}
use Rattle.tide_threads.specs.Acting.{before_all, cursor_of, cursors_in}
use Rattle.tide_threads.specs.declared.participant.Participant.{Participant}
use Rattle.tide_threads.specs.declared.worker.Worker.{Worker}
use Rattle.tide_threads.proofs.on_threads.calls_of_each.Goals as goal

pub loop-padded-preserved : goal.loop-padded-preserved
loop-padded-preserved c =
    let yielded = c.loop-padded.yielded in
    let padded = c.in-Some.padded in
    let calls : ScriptCursor → List Answered = λ (cursor : ScriptCursor). cursor.calls.items in
    let is = c.into_worker.ensures ∙ ap (λ (p : Participant). p.worker) c.into_inner-participant.ensures in
    c.in_ok-append_calls.ensures
    ∙ ap (λ (w : Worker). map (λ own. own.items) c.loop-padded.calls.items ++ map calls (before_all (cursor_of w) [])) is
    ∙ ap (λ (l : List (List Answered)). l ++ map calls (before_all (cursor_of (padded_value padded).worker) [])) c.loop-padded.invariant
    ∙ sym (map-append calls (cursors_in yielded) (before_all (cursor_of (padded_value padded).worker) []))
    ∙ ap (map calls) (sym (cursors_in-append yielded (padded ∷ [])))
