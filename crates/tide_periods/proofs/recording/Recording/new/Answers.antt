-- Answers to the goals of recording::Recording::new.
use Rattle.std.proofs.Common.{ap, sym, subst, List}
use Rattle.tide_model.specs.declared.entry.Event.{Event}
use Rattle.tide_report.specs.Reports.{Reported}
use Rattle.tide_periods.specs.Recorded.{IsSettled}
use Rattle.tide_periods.proofs.RecordedLaws.{recorded_of}
use Rattle.tide_periods.proofs.Starting.{IsSettled-nothing, StandsIdle-nothing}
use Rattle.tide_periods.proofs.recording.Recording.new.Goals as goal

pub returns-clause-settled : goal.returns-clause-settled
returns-clause-settled g c =
    subst (λ (events : List Event). IsSettled (recorded_of (g.S.Store.setting c.args.store) (g.S.Store.state c.args.store) events 0 0 c.args.blocks)) (sym c.in_ok-events.ensures)
    (IsSettled-nothing (g.S.Store.setting c.args.store) (g.S.Store.state c.args.store) c.args.blocks c.requires.empty c.requires.blocks)

pub returns-clause-nothing : goal.returns-clause-nothing
returns-clause-nothing g c = c.in_ok-events.ensures

pub returns-clause-stands : goal.returns-clause-stands
returns-clause-stands g c =
    StandsIdle-nothing (g.S.Store.setting c.args.store).layout (g.S.Store.state c.args.store) c.in_ok-events.events.items c.in_ok-report.report
    c.requires.empty c.in_ok-events.ensures (ap (λ (r : Reported). r.cycles) c.in_ok-report.ensures) (ap (λ (r : Reported). r.ids) c.in_ok-report.ensures)
