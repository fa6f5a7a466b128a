-- What somebody was told who watches a run.
use Rattle.std.specs.Prelude.{ℕ, ◌≡◌, ◌+◌, List, [], ◌∷◌, ◌++◌, length}
use Rattle.std.specs.Fn.{CalledAt, Mut}
use Rattle.std.specs.List.{FoldsTo}
use denote.Ref.{Bor}
use Rattle.tide_server.specs.tide_model.Layout.{Layout}
use Rattle.tide_server.specs.tide_model.Periods.{open_count}
use Rattle.tide_server.specs.tide_model.declared.entry.Event.{Event}
use Rattle.tide_server.specs.tide_report.Ends.{CycleEnd, ends_in, ends_of}
use Rattle.tide_server.specs.tide_report.Reports.{Reported}

-- the cycles that some reports tell, one after another
abbrev pub all_told : List Reported → List CycleEnd
all_told [] = []
all_told (report ∷ reports) = ends_of report ++ all_told reports

-- calls with these reports, one after another, took who watches from one state to another
abbrev pub WasCalled : {W : Type 0} → Mut W (Bor Reported × Unit {0}) (Unit {0}) → W → List Reported → W → Type 0
WasCalled g watch reports last = FoldsTo (λ before report after. CalledAt g before report tt after) watch reports last

-- It was called as many times as a history has parts, with reports that tell, one after another, just the cycles that
-- ended in it.
pub record WasTold {W : Type 0} (g : Mut W (Bor Reported × Unit {0}) (Unit {0})) (layout : Layout) (seen : List Event)
    (watch last : W) : Type 0 where
  pub reports : List Reported
  pub calls : WasCalled g watch reports last
  pub each : length reports ≡ open_count seen
  pub told : all_told reports ≡ ends_in layout seen

-- so it was behind the parts from one number to below another, of the cycles that ended in a history since an earlier one
pub record HasWatched {W : Type 0} (g : Mut W (Bor Reported × Unit {0}) (Unit {0})) (layout : Layout)
    (first seen : List Event) (from to : ℕ) (watch last : W) : Type 0 where
  pub reports : List Reported
  pub calls : WasCalled g watch reports last
  pub went_on : to ≡ from + length reports
  pub came : ends_in layout seen ≡ ends_in layout first ++ all_told reports
