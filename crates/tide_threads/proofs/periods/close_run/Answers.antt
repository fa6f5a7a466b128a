-- What is left of a heap that was closed is what its history tells.
use Rattle.std.proofs.Common.{◌∙◌, ap, map, refl, subst}
use Rattle.tide_periods.specs.Recorded.{Recorded}
use Rattle.tide_periods.specs.declared.cursor.ScriptCursor.{ScriptCursor}
use Rattle.tide_report.specs.Ends.{TellsEnds}
use Rattle.tide_threads.proofs.periods.close_run.Goals as goal

pub finish-requires-clause-retired : goal.finish-requires-clause-retired
finish-requires-clause-retired c = ap (Rattle.std.specs.List.list_all (λ (x : ScriptCursor). x.retired)) c.live-live.ensures.cursors ∙ c.requires.retired

pub returns : goal.returns
returns c =
    let same = c.live-live.ensures.same in
    let left = c.in_ok-kept in
    record {
      history = left.ensures.history ∙ ap (λ (r : Recorded). r.history) same;
      heap = left.ensures.heap ∙ ap (λ (r : Recorded). r.setting) same;
      report = subst (λ (r : Recorded). TellsEnds r.setting.layout r.history left.report) same left.ensures.report;
      calls = left.ensures.calls ∙ ap (map (λ (x : ScriptCursor). x.calls.items)) c.live-live.ensures.cursors;
      live = c.live-live.ensures.live;
      log = refl;
      none_met = λ none. c.deferred-deferred.ensures.none (ap (λ (r : Recorded). r.setting.layout.visitors) same ∙ none);
    }
