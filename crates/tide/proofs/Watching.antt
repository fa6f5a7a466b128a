-- Who watches was told, behind each turn, of the cycles that ended in it.
use Rattle.std.proofs.Common.{ℕ, ◌≡◌, ◌+◌, refl, sym, ◌∙◌, ap, arith, List, [], ◌∷◌, ◌++◌, append_assoc, append-nil}
use Rattle.std.proofs.lemmas.Fn.{FoldsTo-push}
use Rattle.std.proofs.lemmas.List.{length-append}
use Rattle.std.specs.Fn.{CalledAt, Mut}
use Rattle.std.specs.Prelude.{map}
use denote.Ref.{Bor}
use Rattle.tide.specs.Watched.{HasWatched, WasTold, all_told}
use Rattle.tide_server.specs.tide_heap.tide_freeze.Books.{AddsEnds}
use Rattle.tide_server.specs.tide_model.Layout.{Layout}
use Rattle.tide_server.specs.tide_model.Periods.{open_count}
use Rattle.tide_server.specs.tide_model.declared.entry.Event.{Event}
use Rattle.tide_server.specs.tide_report.Ends.{CycleEnd, end_of, ends_in, ends_of}
use Rattle.tide_server.specs.tide_report.Reports.{Reported}
use Rattle.tide_server.specs.tide_report.declared.report.CycleLine.{CycleLine}

told-push : (reports : List Reported) (report : Reported) → all_told (reports ++ report ∷ []) ≡ all_told reports ++ ends_of report
told-push [] report = append-nil (ends_of report)
told-push (first ∷ reports) report =
    ap (λ (ends : List CycleEnd). ends_of first ++ ends) (told-push reports report)
    ∙ sym (append_assoc (ends_of first) (all_told reports) (ends_of report))

module _ {W : Type 0} (g : Mut W (Bor Reported × Unit {0}) (Unit {0})) (layout : Layout) (first : List Event) (from : ℕ)
    (watch : W) where
  -- nothing was told yet
  pub watched_none : HasWatched g layout first first from from watch watch
  watched_none = record {
    reports = [];
    calls = refl;
    went_on = omega arith;
    came = sym (append-nil (ends_in layout first));
  }

  -- a turn more ended, with a report that was empty before it, and it was told
  pub watched_turn : (before after : List Event) (to : ℕ) (report longer : Reported) (so_far last : W) →
      report.cycles ≡ [] → AddsEnds layout before after report longer →
      HasWatched g layout first before from to watch so_far → CalledAt g so_far longer tt last →
      HasWatched g layout first after from (to + 1) watch last
  watched_turn before after to report longer so_far last empty adds watched called = record {
    reports = watched.reports ++ longer ∷ [];
    calls = FoldsTo-push (λ one told other. CalledAt g one told tt other) watch watched.reports so_far longer last
        watched.calls called;
    went_on =
        let were = watched.went_on in
        let more = length-append watched.reports (longer ∷ []) in
        omega (arith, were, more);
    came = adds.came ∙ ap (λ (ends : List CycleEnd). ends ++ adds.ended) watched.came
        ∙ append_assoc (ends_in layout first) (all_told watched.reports) adds.ended
        ∙ ap (λ (ends : List CycleEnd). ends_in layout first ++ ends)
        (ap (λ (ends : List CycleEnd). all_told watched.reports ++ ends) (sym (lines_are ∙ adds.told))
        ∙ sym (told-push watched.reports longer));
  }
    where
      lines_are : ends_of longer ≡ map (end_of longer.ids) adds.lines
      lines_are = ap (map (end_of longer.ids))
          (adds.added ∙ ap (λ (lines : List CycleLine). lines ++ adds.lines) empty)

  -- since the first part of a history in which no cycle had ended that is all
  pub told_all : (seen : List Event) (last : W) → ends_in layout first ≡ [] → from ≡ 1 →
      HasWatched g layout first seen from (open_count seen + 1) watch last → WasTold g layout seen watch last
  told_all seen last fresh one watched = record {
    reports = watched.reports;
    calls = watched.calls;
    each = (let went_on = watched.went_on in omega (arith, went_on, one));
    told = sym (watched.came ∙ ap (λ (ends : List CycleEnd). ends ++ all_told watched.reports) fresh);
  }
