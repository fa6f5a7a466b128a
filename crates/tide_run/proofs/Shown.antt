-- What is printed of a run, with what stands behind its text, is what was asked for.
use Rattle.std.proofs.Common.{ℕ, ◌≡◌, ◌∙◌, sym, subst, Bool, true, false, List, ◌++◌, Option, None, Some}
use Rattle.std.specs.Prelude.{IfSome}
use Rattle.tide_model.specs.History.{state_after}
use Rattle.tide_model.specs.Refused.{ShapeLists}
use Rattle.tide_options.specs.declared.options.Options.{Options}
use Rattle.tide_retained.specs.declared.contents.Contents.{Contents}
use Rattle.tide_retained.specs.Contents.{HasKeysOf}
use Rattle.tide_snapshot.specs.Line.{AreLines}
use Rattle.tide_run.specs.declared.asking.Printable.{Printable}
use Rattle.tide_run.specs.Asked.{AreLinesOf, IsPrintedOf, IsShownOf, asks_for_snapshot, asks_for_stats, printed_of, printed_with, statistics_of}
use Rattle.tide_run.specs.Printing.{AreShownLines, IsPrintedWith}
use Rattle.tide_run.specs.Runs.{Ran}

-- the lines of a snapshot of a run's last state are those of that state
lines_of : (shown : Bool) (shapes : ShapeLists) (ran : Ran) (names : List (List ℕ)) (snapshot : Option Contents) (lines : List ℕ) → ran.keys ≡ names →
    IsShownOf shown shapes ran snapshot → AreShownLines names snapshot lines → AreLinesOf shown ran lines
lines_of true shapes ran names None lines same is are = absurd is
lines_of true shapes ran names (Some snapshot) lines same is are =
    let state = state_after ran.layout ran.history in
    subst (λ (keys : List (List ℕ)). AreLines ran.layout keys state lines) (sym same) (are ran.layout state is.0)
lines_of false shapes ran names None lines same is are = are
lines_of false shapes ran names (Some snapshot) lines same is are = absurd (cc)

-- its properties have keys of the workload
pub keys_shown : (shown : Bool) (shapes : ShapeLists) (ran : Ran) (snapshot : Option Contents) → IsShownOf shown shapes ran snapshot → IfSome snapshot (HasKeysOf shapes)
keys_shown shown shapes ran None is = tt
keys_shown true shapes ran (Some snapshot) is = is.1
keys_shown false shapes ran (Some snapshot) is = absurd (cc)

-- so what is printed is what was asked for
pub printed_is_asked : (asked : Option Options) (shapes : ShapeLists) (done : Printable) (text : List ℕ) → done.outcome.keys ≡ done.load.keys →
    printed_with done.counts done.outcome ≡ printed_of asked done.outcome → done.stats ≡ asks_for_stats asked → IsShownOf (asks_for_snapshot asked) shapes done.outcome done.snapshot → IsPrintedWith done text →
    IsPrintedOf asked done.outcome text
printed_is_asked asked shapes done text same prints stats is with = record {
  lines = with.lines;
  are = lines_of (asks_for_snapshot asked) shapes done.outcome done.load.keys done.snapshot with.lines same is with.are;
  is = with.is ∙ (λ i. prints i ++ (statistics_of (stats i) done.outcome ++ with.lines));
}
